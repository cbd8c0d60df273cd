-- A life: each call keeps the heap and the heap that never collects in agreement, and the facts of a marking true. So by
-- induction over the calls the answers to the edits are those of the heap that heard the same edits.
use Rattle.std.proofs.Common.{◌≡◌, ◌*◌, ◌≤◌, List, [], ◌∷◌, length, Result, sym, refl, ap, ◌∙◌, subst}
use Rattle.heap.specs.Effects.{Outside}
use Rattle.heap.proofs.Keeps.{same_outside}
use Rattle.layout.specs.Shape.{Shape}
use Rattle.memory.specs.State.{State}
use Rattle.model.specs.declared.edits.Edit.{Edit}
use Rattle.model.specs.declared.edits.Refusal.{Refusal}
use Rattle.model.specs.declared.edits.Reply.{Reply}
use Rattle.life.specs.declared.calls.Call.{Call}
use Rattle.life.specs.declared.calls.Answer.{Answer}
use Rattle.life.specs.Serving.{served, answers, after}
use Rattle.life.specs.Faithful.{heard, heard_of, seen, seen_of, replies, told, Both, serving, living}
use Rattle.life.specs.Snapshot.{scan_count, scan_count_of}
use Rattle.life.proofs.Agree.{Agree}
use Rattle.life.proofs.Facts.{Facts}

-- what is true at every moment of a life
pub record Sure (S : Shape) (b : Both) : Type 0 where
  pub agree : Agree S b.heap b.model b.number
  pub facts : Facts S b.heap b.model b.number b.snapshot b.scans

-- nothing outside changes in two steps if nothing does in each
pub outside_both : {s t u : State} → Outside s t → Outside t u → Outside s u
outside_both {s} {t} {u} a b = record {
  words = λ k l. b.words k (subst (λ c. 1024 * c ≤ k) (sym a.count) l) ∙ a.words k l;
  spare = b.spare ∙ a.spare;
  count = b.count ∙ a.count;
}

-- a call c from b, which is answered o and leads to the heap t, and to c in all
pub record OneCall (S : Shape) (b : Both) (c : Call) (o : Result Answer Refusal) (t : State) (d : Both) : Type 0 where
  pub sure : Sure S d
  pub heap : d.heap ≡ t
  pub outside : Outside b.heap t
  pub replied : (rs : List (Result Reply Refusal)) (es : List Edit) → rs ≡ replies S d.model es → seen_of c o rs ≡ replies S b.model (heard_of c o es)
  pub hears : (es : List Edit) → told S d.model es ≡ told S b.model (heard_of c o es)
  pub counts : length d.scans ≡ scan_count_of o (length b.scans)

-- what is true of a life that begins with b
pub record Told (S : Shape) (b : Both) (cs : List Call) : Type 0 where
  pub faithful : seen cs (answers S b.heap cs) ≡ replies S b.model (heard cs (answers S b.heap cs))
  pub sure : Sure S (living S b cs)
  pub heap : (living S b cs).heap ≡ after S b.heap cs
  pub model : (living S b cs).model ≡ told S b.model (heard cs (answers S b.heap cs))
  pub counts : length (living S b cs).scans ≡ scan_count cs (answers S b.heap cs) (length b.scans)
  pub outside : Outside b.heap (after S b.heap cs)

-- one call, and then a life from where it leads
one_more : (S : Shape) (b : Both) (c : Call) (cs : List Call) → OneCall S b c (served S b.heap c).0 (served S b.heap c).1 (serving S b c)
    → Told S (serving S b c) cs → Told S b (c ∷ cs)
one_more S b c cs one rest =
    let o = (served S b.heap c).0 in
    let t = (served S b.heap c).1 in
    let d = serving S b c in
    let os : answers S d.heap cs ≡ answers S t cs = ap (λ h. answers S h cs) one.heap in
    let es : heard cs (answers S d.heap cs) ≡ heard cs (answers S t cs) = ap (heard cs) os in
    record {
      faithful = one.replied (seen cs (answers S t cs)) (heard cs (answers S t cs))
          (ap (seen cs) (sym os) ∙ rest.faithful ∙ ap (replies S d.model) es);
      sure = rest.sure;
      heap = rest.heap ∙ ap (λ h. after S h cs) one.heap;
      model = rest.model ∙ ap (told S d.model) es ∙ one.hears (heard cs (answers S t cs));
      counts = rest.counts ∙ ap (λ l. scan_count cs l (length d.scans)) os ∙ ap (scan_count cs (answers S t cs)) one.counts;
      outside = outside_both one.outside (subst (λ h. Outside h (after S h cs)) one.heap rest.outside);
    }

pub lives : (S : Shape) → ((b : Both) (c : Call) → Sure S b → OneCall S b c (served S b.heap c).0 (served S b.heap c).1 (serving S b c))
    → (cs : List Call) (b : Both) → Sure S b → Told S b cs
lives S call [] b a = record { faithful = refl; sure = a; heap = refl; model = refl; counts = refl; outside = same_outside b.heap }
lives S call (c ∷ cs) b a = let one = call b c a in one_more S b c cs one (lives S call cs (serving S b c) one.sure)
