-- What the steps of a marking and of refining do, said without how it is done. They move no object and change no word.
use Rattle.std.specs.Prelude.{◌≡◌, ℕ, suc, ◌+◌, ◌*◌, ◌/◌, ◌<◌, true, false, ◌⊎◌, Some, Ok, Err, Result, ◌≢◌}
use Rattle.layout.specs.Shape.{Shape}
use Rattle.memory.specs.State.{State, word_in, root_in}
use Rattle.memory.specs.declared.phase.Phase.TheVariants.{Marking, Marked}
use Rattle.model.specs.declared.edits.Refusal.{Refusal}
use Rattle.marking.specs.declared.scanning.Marked.{Marked as Progress}
use Rattle.marking.specs.declared.scanning.Marked.TheVariants.{Scanned, Done}
use Rattle.marking.specs.declared.refining.Refined.{Refined as Refinement}
use Rattle.marking.specs.declared.refining.Refined.TheVariants.{Refined, Clean}
use Rattle.heap.specs.Effects.{SameMarks}
use Rattle.heap.specs.Sound.{region, size_at}
use Rattle.heap.specs.Tiles.{total, held_by}

-- the same objects with the same words, the same roots and the same fills
pub record SameObjects (s t : State) : Type 0 where
  pub words : t.words ≡ s.words
  pub starts : t.starts ≡ s.starts
  pub roots : t.roots ≡ s.roots
  pub fills : (g : ℕ) → (region t g).fill ≡ (region s g).fill

-- what the roots hold is marked and pending, and nothing else is marked
pub record Begun (s t : State) : Type 0 where
  pub same : SameObjects s t
  pub phase : t.phase ≡ Marking
  pub held : (k p : ℕ) → root_in s k ≡ Some p → t.marks.marked p ≡ true
  pub only : (p : ℕ) → t.marks.marked p ≡ true → (k : ℕ) × (root_in s k ≡ Some p)
  pub pending : (p : ℕ) → t.marks.pending p ≡ t.marks.marked p

abbrev pub Begins : State → State → Result (Unit {0}) Refusal → Type 0
Begins s t (Ok done) = Begun s t
Begins s t (Err why) = t ≡ s

-- the pending object at the lowest place, p, is pending no more; what it refers to is marked, and pending if it was not
-- marked before; no other mark changes
pub record Scans (S : Shape) (s t : State) (p : ℕ) : Type 0 where
  pub same : SameObjects s t
  pub phase : t.phase ≡ Marking
  pub waited : s.marks.pending p ≡ true
  pub lowest : (q : ℕ) → q < p → s.marks.pending q ≡ false
  pub finished : t.marks.pending p ≡ false
  pub named : (i q : ℕ) → S.reference (word_in s p) i ≡ true → word_in s (p + i) ≡ suc q → t.marks.marked q ≡ true
  pub kept : (q : ℕ) → s.marks.marked q ≡ true → t.marks.marked q ≡ true
  pub awaits : (q : ℕ) → s.marks.pending q ≡ true → (q ≢ p) → t.marks.pending q ≡ true
  pub only : (q : ℕ) → t.marks.marked q ≡ true → s.marks.marked q ≡ false
      → (t.marks.pending q ≡ true) × ((i : ℕ) × (S.reference (word_in s p) i ≡ true) × (word_in s (p + i) ≡ suc q))
  pub no_more : (q : ℕ) → t.marks.pending q ≡ true → ((s.marks.pending q ≡ true) × (q ≢ p)) ⊎ (s.marks.marked q ≡ false)

-- nothing was pending: the marking is done, and each live count is the words of the region's marked objects
pub record Ends (S : Shape) (s t : State) : Type 0 where
  pub same : SameObjects s t
  pub phase : t.phase ≡ Marked
  pub none : (q : ℕ) → s.marks.pending q ≡ false
  pub marked : (q : ℕ) → t.marks.marked q ≡ s.marks.marked q
  pub pending : (q : ℕ) → t.marks.pending q ≡ false
  pub live : (g : ℕ) → (region t g).live ≡ total (held_by t.marks.marked (size_at S t)) (1024 * g) 1024

abbrev pub Marks : Shape → State → State → Result Progress Refusal → Type 0
Marks S s t (Ok Scanned) = (p : ℕ) × Scans S s t p
Marks S s t (Ok Done) = Ends S s t
Marks S s t (Err why) = t ≡ s

-- an object of card d refers to another region, g
pub record Refers (S : Shape) (s : State) (d g : ℕ) : Type 0 where
  pub place : ℕ
  pub position : ℕ
  pub target : ℕ
  pub object : s.starts place ≡ true
  pub card : place / 64 ≡ d
  pub reference : S.reference (word_in s place) position ≡ true
  pub word : word_in s (place + position) ≡ suc target
  pub leads : target / 1024 ≡ g
  pub other : place / 1024 ≡ g → ⊥

-- the lowest dirty card, d, is clean, and stands in the table of each other region that its objects refer to; no other card
-- and no other entry changes
pub record Refines (S : Shape) (s t : State) (d : ℕ) : Type 0 where
  pub same : SameObjects s t
  pub marks : SameMarks s t
  pub dirty : s.cards.dirty d ≡ true
  pub lowest : (c : ℕ) → c < d → s.cards.dirty c ≡ false
  pub clean : t.cards.dirty d ≡ false
  pub others : (c : ℕ) → (c ≢ d) → t.cards.dirty c ≡ s.cards.dirty c
  pub kept : (g c : ℕ) → s.cards.table g c ≡ true → t.cards.table g c ≡ true
  pub entered : (g : ℕ) → Refers S s d g → t.cards.table g d ≡ true
  pub only : (g c : ℕ) → t.cards.table g c ≡ true → s.cards.table g c ≡ false → (c ≡ d) × Refers S s d g

abbrev pub Refining : Shape → State → State → Refinement → Type 0
Refining S s t Refined = (d : ℕ) × Refines S s t d
Refining S s t Clean = ((c : ℕ) → s.cards.dirty c ≡ false) × (t ≡ s)
