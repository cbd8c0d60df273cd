-- The loop over the calls: what holds after k of them, one call more, and the end.
use Rattle.std.proofs.Common.{◌≡◌, ℕ, zero, suc, ◌+◌, ◌-◌, ◌*◌, ◌/◌, ◌<◌, ◌≤◌, List, [], ◌∷◌, ◌++◌, length, get_or, take, drop, set, Some, None, Option, sym, refl, ap, ◌∙◌, ⊎_elim, arith, length-drop, length-set, take-append-drop}
use lib.Seq.{take-nil}
use Rattle.std.specs.Simd.{first_chunks}
use Rattle.layout.specs.Shape.{Shape}
use Rattle.life.specs.Serving.{after, answers, served}
use Rattle.life.specs.declared.calls.Call.{Call}
use Rattle.memory.specs.State.{State}
use Rattle.std.proofs.lemmas.List.{append_assoc, append-nil, drop-drop, get_or-take, get_or-drop, drop_more, drop-set-lt, take_more_set}
use Rattle.std.proofs.lemmas.Bool.{cases_lt, cond-true, cond-false, lt-ltb, le-ltb}
use Rattle.replay.specs.Codes.{decoded, kind_of, value_of}
use Rattle.replay.specs.Running.{all_served, answered, asked, call_at, calls_in, up_to, words_of}

-- the group of four words at k begins at the word 4 * k
four_at : (n : ℕ) (ws : List ℕ) (k : ℕ) (d : List ℕ) → k < n → get_or (first_chunks 4 n ws) k d ≡ take 4 (drop (4 * k) ws)
four_at zero ws k d h = absurd (omega arith)
four_at (suc n) ws zero d h = refl
four_at (suc n) ws (suc k) d h =
    let next : 4 + 4 * k ≡ 4 * suc k = omega arith in
    four_at n (drop 4 ws) k d (omega arith) ∙ ap (take 4) (drop-drop (4 * k) 4 ws ∙ ap (λ i. drop i ws) next)

-- the call that it stands for is call k
pub call_of_four : (ws : List ℕ) (k : ℕ) (four : List ℕ) → k < length ws / 4 → four ≡ get_or (first_chunks 4 (length ws / 4) ws) k four
    → decoded (get_or four 0 0) (get_or four 1 0) (get_or four 2 0) (get_or four 3 0) ≡ call_at ws k
call_of_four ws k four h is =
    let here : four ≡ take 4 (drop (4 * k) ws) = is ∙ four_at (length ws / 4) ws k four h in
    let word : (j i : ℕ) → j < 4 → 4 * k + j ≡ i → get_or four j 0 ≡ get_or ws i 0 =
    λ j i l e. ap (λ xs. get_or xs j 0) here ∙ get_or-take 4 (drop (4 * k) ws) j 0 l ∙ get_or-drop (4 * k) ws j 0 ∙ ap (λ n. get_or ws n 0) e in
    rw (word 0 (4 * k) (omega arith) (omega arith), word 1 (4 * k + 1) (omega arith) refl)
    (rw (word 2 (4 * k + 2) (omega arith) refl, word 3 (4 * k + 3) (omega arith) refl) (sym (cond-true _ _ _ (lt-ltb k (length ws / 4) h))))

-- fewer than four words are no call
short : (ws : List ℕ) → length ws < 4 → calls_in ws ≡ []
short [] h = refl
short (code ∷ []) h = refl
short (code ∷ a ∷ []) h = refl
short (code ∷ a ∷ b ∷ []) h = refl
short (code ∷ a ∷ b ∷ c ∷ ws) h = absurd (omega arith)

-- the call that begins at word n
abbrev call_from : List ℕ → ℕ → Option Call
call_from ws n = decoded (get_or ws n 0) (get_or ws (n + 1) 0) (get_or ws (n + 2) 0) (get_or ws (n + 3) 0)

four : (ws : List ℕ) (n : ℕ) → n + 3 < length ws → calls_in (drop n ws) ≡ up_to (call_from ws n) (calls_in (drop (n + 4) ws))
four ws n h =
    let two : n + 1 + 1 ≡ n + 2 = omega arith in
    let three : n + 2 + 1 ≡ n + 3 = omega arith in
    let all : n + 3 + 1 ≡ n + 4 = omega arith in
    let a = drop_more ws n 0 (omega arith) in
    let b = drop_more ws (n + 1) 0 (omega arith) ∙ ap (λ k. get_or ws (n + 1) 0 ∷ drop k ws) two in
    let c = drop_more ws (n + 2) 0 (omega arith) ∙ ap (λ k. get_or ws (n + 2) 0 ∷ drop k ws) three in
    let d = drop_more ws (n + 3) 0 h ∙ ap (λ k. get_or ws (n + 3) 0 ∷ drop k ws) all in
    ap calls_in (a ∙ ap (λ l. get_or ws n 0 ∷ l) (b ∙ ap (λ l. get_or ws (n + 1) 0 ∷ l) (c ∙ ap (λ l. get_or ws (n + 2) 0 ∷ l) d)))

-- the calls from call k on: that one, and those after it
follow : (ws : List ℕ) (k : ℕ) → calls_in (drop (4 * k) ws) ≡ up_to (call_at ws k) (calls_in (drop (4 * (k + 1)) ws))
follow ws k =
    let rest = calls_in (drop (4 * (k + 1)) ws) in
    ⊎_elim
    (λ h.
    let on : 4 * k + 4 ≡ 4 * (k + 1) = omega arith in
    let is : call_at ws k ≡ call_from ws (4 * k) = cond-true _ _ _ (lt-ltb k (length ws / 4) h) in
    four ws (4 * k) (omega arith) ∙ ap (λ n. up_to (call_from ws (4 * k)) (calls_in (drop n ws))) on ∙ sym (ap (λ o. up_to o rest) is))
    (λ h.
    let is : call_at ws k ≡ None = cond-false _ _ _ (le-ltb k (length ws / 4) h) in
    let n = length-drop (4 * k) ws in
    short (drop (4 * k) ws) (omega arith) ∙ sym (ap (λ o. up_to o rest) is))
    (cases_lt k (length ws / 4))

-- the calls that are still to run after k of them, where there are places for m answers
abbrev pub left : List ℕ → ℕ → ℕ → List Call
left ws m k = take (m - k) (calls_in (drop (4 * k) ws))

left_some : (ws : List ℕ) (m k : ℕ) (c : Call) → k < m → call_at ws k ≡ Some c → left ws m k ≡ c ∷ left ws m (k + 1)
left_some ws m k c h e =
    let n : m - k ≡ suc (m - (k + 1)) = omega arith in
    ap (λ i. take i (calls_in (drop (4 * k) ws))) n
    ∙ ap (λ l. take (suc (m - (k + 1))) l) (follow ws k ∙ ap (λ o. up_to o (calls_in (drop (4 * (k + 1)) ws))) e)

pub left_none : (ws : List ℕ) (m k : ℕ) → call_at ws k ≡ None → left ws m k ≡ []
left_none ws m k e =
    ap (λ l. take (m - k) l) (follow ws k ∙ ap (λ o. up_to o (calls_in (drop (4 * (k + 1)) ws))) e)
    ∙ take-nil (m - k)

pub left_full : (ws : List ℕ) (m k : ℕ) → m ≤ k → left ws m k ≡ []
left_full ws m k h = let n : m - k ≡ 0 = omega arith in ap (λ i. take i (calls_in (drop (4 * k) ws))) n

-- k of the calls are run: the rest leads where all of them lead
pub record Running (S : Shape) (s : State) (ws before : List ℕ) (k : ℕ) (os : List ℕ) (t : State) : Type 0 where
  pub within : k ≤ length before / 2
  pub long : length os ≡ length before
  pub count : k + length (left ws (length before / 2) k) ≡ length (asked ws before)
  pub ends : after S t (left ws (length before / 2) k) ≡ after S s (asked ws before)
  pub says : take (2 * k) os ++ words_of (answers S t (left ws (length before / 2) k)) ≡ words_of (answers S s (asked ws before))
  pub rest : drop (2 * k) os ≡ drop (2 * k) before

pub running_none : (S : Shape) (s : State) (ws before : List ℕ) → Running S s ws before 0 before s
running_none S s ws before =
    let m = length before / 2 in
    let all : left ws m 0 ≡ asked ws before = let n : m - 0 ≡ m = omega arith in ap (λ i. take i (calls_in ws)) n in
    record {
      within = omega arith;
      long = refl;
      count = let n : 0 + length (left ws m 0) ≡ length (left ws m 0) = omega arith in n ∙ ap length all;
      ends = ap (after S s) all;
      says = ap (λ cs. words_of (answers S s cs)) all;
      rest = refl;
    }

-- the places of answer k hold its words, and those after them are as before
stored : (os : List ℕ) (k x y : ℕ) → 2 * k + 1 < length os → take (2 * (k + 1)) (set (set os (2 * k) x) (2 * k + 1) y) ≡ take (2 * k) os ++ (x ∷ y ∷ [])
stored os k x y h =
    let n : 2 * (k + 1) ≡ 2 * k + 1 + 1 = omega arith in
    let long = length-set os (2 * k) x in
    ap (λ i. take i (set (set os (2 * k) x) (2 * k + 1) y)) n
    ∙ take_more_set (set os (2 * k) x) (2 * k + 1) y (omega arith)
    ∙ ap (λ l. l ++ (y ∷ [])) (take_more_set os (2 * k) x (omega arith))
    ∙ append_assoc (take (2 * k) os) (x ∷ []) (y ∷ [])

past : (os : List ℕ) (k x y : ℕ) → drop (2 * (k + 1)) (set (set os (2 * k) x) (2 * k + 1) y) ≡ drop (2 * (k + 1)) os
past os k x y =
    drop-set-lt (2 * (k + 1)) (set os (2 * k) x) (2 * k + 1) y (omega arith) ∙ drop-set-lt (2 * (k + 1)) os (2 * k) x (omega arith)

pub one_more : (S : Shape) (s : State) (ws before : List ℕ) (k : ℕ) (os : List ℕ) (t : State) (c : Call)
    → k < length before / 2 → call_at ws k ≡ Some c → Running S s ws before k os t
    → Running S s ws before (k + 1) (answered os k (served S t c).0) (served S t c).1
one_more S s ws before k os t c h e run =
    let m = length before / 2 in
    let a = (served S t c).0 in
    let u = (served S t c).1 in
    let next = left ws m (k + 1) in
    let now : left ws m k ≡ c ∷ next = left_some ws m k c h e in
    let after' : (l : List ℕ) → drop 2 (drop (2 * k) l) ≡ drop (2 * k + 2) l = drop-drop 2 (2 * k) in
    let two : 2 * k + 2 ≡ 2 * (k + 1) = omega arith in
    let x = kind_of a in
    let y = value_of a in
    let counted : length (left ws m k) ≡ suc (length next) = ap length now in
    record {
      within = omega arith;
      long = length-set (set os (2 * k) x) (2 * k + 1) y ∙ length-set os (2 * k) x ∙ run.long;
      count = let q = run.count in omega arith;
      ends = sym (ap (after S t) now) ∙ run.ends;
      says = ap (λ l. l ++ words_of (answers S u next)) (stored os k x y (omega (arith, run.long)))
          ∙ append_assoc (take (2 * k) os) (x ∷ y ∷ []) (words_of (answers S u next))
          ∙ sym (ap (λ cs. take (2 * k) os ++ words_of (answers S t cs)) now) ∙ run.says;
      rest = past os k x y ∙ sym (ap (λ n. drop n os) two) ∙ sym (after' os) ∙ ap (drop 2) run.rest ∙ after' before ∙ ap (λ n. drop n before) two;
    }

-- with no call left, all are run
pub all_run : (S : Shape) (s : State) (ws before : List ℕ) (k : ℕ) (os : List ℕ) (t : State)
    → left ws (length before / 2) k ≡ [] → Running S s ws before k os t → (k, os, t) ≡ all_served S s (asked ws before) before
all_run S s ws before k os t none run =
    let n : k ≡ length (asked ws before) = let z : length (left ws (length before / 2) k) ≡ 0 = ap length none in let q = run.count in omega arith in
    let front : take (2 * k) os ≡ words_of (answers S s (asked ws before)) =
    sym (append-nil (take (2 * k) os)) ∙ sym (ap (λ cs. take (2 * k) os ++ words_of (answers S t cs)) none) ∙ run.says in
    let words : os ≡ words_of (answers S s (asked ws before)) ++ drop (2 * length (asked ws before)) before =
    sym (take-append-drop (2 * k) os) ∙ ap (λ l. l ++ drop (2 * k) os) front ∙ ap (λ l. words_of (answers S s (asked ws before)) ++ l) run.rest
    ∙ ap (λ i. words_of (answers S s (asked ws before)) ++ drop (2 * i) before) n in
    let state : t ≡ after S s (asked ws before) = sym (ap (after S t) none) ∙ run.ends in
    λ i. (n i, words i, state i)
