-- The loop over the calls: what holds after k of them, one call more, and the end.
use Rattle.std.proofs.Common.{◌≡◌, ℕ, zero, suc, ◌+◌, ◌<◌, List, [], ◌∷◌, ◌++◌, length, take, drop, set, Result, sym, refl, ap, ◌∙◌, subst, arith, take-append-drop}
use Rattle.heap.specs.Sound.{Sound}
use Rattle.heap.specs.Effects.{Outside}
use Rattle.layout.specs.Shape.{Shape, Lawful}
use Rattle.memory.specs.State.{State}
use Rattle.memory.specs.Objects.{making}
use Rattle.model.specs.Edits.{start}
use Rattle.model.specs.declared.edits.Refusal.{Refusal}
use Rattle.std.proofs.lemmas.List.{append_assoc, append-nil, drop-drop, drop-set-lt, take_more_set, length-set}
use Rattle.life.specs.Serving.{served, answers, after, Lived}
use Rattle.life.specs.Faithful.{heard, heard_of, seen, seen_of, replies, told, living, outset, Faithful, TiedAfter}
use Rattle.life.specs.Snapshot.{Snapshot, scan_count, scan_count_of}
use Rattle.life.specs.declared.calls.Answer.{Answer}
use Rattle.life.specs.declared.calls.Call.{Call}
use Rattle.life.proofs.Agree.{Agree}
use Rattle.life.proofs.EachCall.{any_call}
use Rattle.life.proofs.Promises.{promised_marks}
use Rattle.life.proofs.Runs.{lives}
use Rattle.life.proofs.Starting.{start_agree}

-- k of the calls are served: those that are left lead where all of them lead
pub record Midway (S : Shape) (s : State) (cs : List Call) (before : List (Result Answer Refusal)) (k : ℕ) (left : List Call) (os : List (Result Answer Refusal)) (t : State) : Type 0 where
  pub count : k + length left ≡ length cs
  pub ends : after S t left ≡ after S s cs
  pub says : take k os ++ answers S t left ≡ answers S s cs
  pub rest : drop k os ≡ drop k before
  pub long : length os ≡ length before

pub midway_none : (S : Shape) (s : State) (cs : List Call) (before : List (Result Answer Refusal)) → Midway S s cs before 0 cs before s
midway_none S s cs before = record { count = omega arith; ends = refl; says = refl; rest = refl; long = refl }

pub midway_more : (S : Shape) (s : State) (cs : List Call) (before : List (Result Answer Refusal)) (k : ℕ) (left : List Call) (os : List (Result Answer Refusal)) (t u : State) (c : Call) (a : Result Answer Refusal)
    → k < length os → (a, u) ≡ served S t c → Midway S s cs before k (c ∷ left) os t → Midway S s cs before (k + 1) left (set os k a) u
midway_more S s cs before k left os t u c a room e mid =
    let said : a ≡ (served S t c).0 = ap (λ p. p.0) e in
    let went : u ≡ (served S t c).1 = ap (λ p. p.1) e in
    let front : take (k + 1) (set os k a) ≡ take k os ++ (a ∷ []) = take_more_set os k a room in
    let whole : (take k os ++ (a ∷ [])) ++ answers S u left ≡ take k os ++ (a ∷ answers S u left) = append_assoc (take k os) (a ∷ []) (answers S u left) in
    let past : drop (k + 1) (set os k a) ≡ drop (k + 1) os = drop-set-lt (k + 1) os k a (omega arith) in
    let p : drop 1 (drop k os) ≡ drop (k + 1) os = drop-drop 1 k os in
    let q : drop 1 (drop k before) ≡ drop (k + 1) before = drop-drop 1 k before in
    record {
      count = let n = mid.count in omega arith;
      ends = ap (λ v. after S v left) went ∙ mid.ends;
      says = ap (λ l. l ++ answers S u left) front ∙ whole ∙ ap (λ v. take k os ++ (a ∷ answers S v left)) went
          ∙ ap (λ x. take k os ++ (x ∷ answers S (served S t c).1 left)) said ∙ mid.says;
      rest = past ∙ sym p ∙ ap (λ l. drop 1 l) mid.rest ∙ q;
      long = length-set os k a ∙ mid.long;
    }

pub midway_all : (S : Shape) (s : State) (cs : List Call) (before : List (Result Answer Refusal)) (k : ℕ) (os : List (Result Answer Refusal)) (t : State)
    → Midway S s cs before k [] os t → Lived S s cs before os t
midway_all S s cs before k os t mid =
    let n : k ≡ length cs = let m = mid.count in omega arith in
    let front : take k os ≡ answers S s cs = sym (append-nil (take k os)) ∙ mid.says in
    (sym (take-append-drop k os) ∙ ap (λ l. l ++ drop k os) front ∙ ap (λ l. answers S s cs ++ l) mid.rest ∙ ap (λ m. answers S s cs ++ drop m before) n, mid.ends)

-- no call is left where no place is, or no call
pub none_left : (n : ℕ) (cs : List Call) → (0 < n → length cs ≡ 0) → take n cs ≡ []
none_left zero cs h = refl
none_left (suc n) [] h = refl
none_left (suc n) (c ∷ cs) h = let z : suc (length cs) ≡ 0 = h (omega arith) in absurd (omega arith)

-- answers past the last call are not looked at
seen_more : (S : Shape) (s : State) (cs : List Call) (more : List (Result Answer Refusal)) → seen cs (answers S s cs ++ more) ≡ seen cs (answers S s cs)
seen_more S s [] more = refl
seen_more S s (c ∷ cs) more = ap (seen_of c (served S s c).0) (seen_more S (served S s c).1 cs more)

heard_more : (S : Shape) (s : State) (cs : List Call) (more : List (Result Answer Refusal)) → heard cs (answers S s cs ++ more) ≡ heard cs (answers S s cs)
heard_more S s [] more = refl
heard_more S s (c ∷ cs) more = ap (heard_of c (served S s c).0) (heard_more S (served S s c).1 cs more)

count_more : (S : Shape) (s : State) (cs : List Call) (more : List (Result Answer Refusal)) (n : ℕ) → scan_count cs (answers S s cs ++ more) n ≡ scan_count cs (answers S s cs) n
count_more S s [] more n = refl
count_more S s (c ∷ cs) more n = count_more S (served S s c).1 cs more (scan_count_of (served S s c).0 n)

-- what is promised of a life on a heap that was just made
pub record Promised (S : Shape) (s : State) (cs : List Call) (before os : List (Result Answer Refusal)) (t : State) : Type 0 where
  pub exact : Lived S s cs before os t
  pub faithful : Faithful S cs os
  pub tied : TiedAfter S s cs os t
  pub marked : Snapshot S t (living S (outset s) cs).number (living S (outset s) cs).snapshot (scan_count cs os 0)
  pub sound : Sound S t
  pub outside : Outside s t

pub promised : (S : Shape) → Lawful S → (ws sp : List ℕ) (cs : List Call) (before os : List (Result Answer Refusal)) (t : State)
    → Lived S (making ws sp) cs before os t → Promised S (making ws sp) cs before os t
promised S law ws sp cs before os t lived =
    let s = making ws sp in
    let b = living S (outset s) cs in
    let life = lives S (any_call law) cs (outset s) (record { agree = start_agree S ws sp; facts = tt }) in
    let more = drop (length cs) before in
    let saw : seen cs os ≡ seen cs (answers S s cs) = ap (seen cs) lived.0 ∙ seen_more S s cs more in
    let hears : heard cs os ≡ heard cs (answers S s cs) = ap (heard cs) lived.0 ∙ heard_more S s cs more in
    let counts : length b.scans ≡ scan_count cs os 0 = life.counts ∙ sym (ap (λ l. scan_count cs l 0) lived.0 ∙ count_more S s cs more 0) in
    let at : b.heap ≡ t = life.heap ∙ sym lived.1 in
    let model : b.model ≡ told S start (heard cs os) = life.model ∙ ap (told S start) (sym hears) in
    let agree : Agree S t (told S start (heard cs os)) b.number =
    subst (λ u. Agree S u (told S start (heard cs os)) b.number) at
    (subst (λ m. Agree S b.heap m b.number) model life.sure.agree) in
    record {
      exact = lived;
      faithful = saw ∙ life.faithful ∙ ap (replies S start) (sym hears);
      tied = agree.tied;
      marked = subst (λ u. Snapshot S u b.number b.snapshot (scan_count cs os 0)) at (promised_marks life.sure.agree b.snapshot b.scans life.sure.facts (scan_count cs os 0) counts);
      sound = agree.sound;
      outside = subst (Outside s) (sym lived.1) life.outside;
    }
