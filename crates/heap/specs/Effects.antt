-- What the edits do to objects, said without how it is done. Objects stand where they stood.
use Rattle.std.specs.Prelude.{◌≡◌, ℕ, suc, ◌+◌, ◌*◌, ◌/◌, ◌<◌, ◌≤◌, true, false, cond, ◌⊎◌, Some, None, Ok, Err, Option, Result, ◌==◌, ◌≢◌, slice_set}
use Rattle.layout.specs.Shape.{Shape, plain}
use Rattle.memory.specs.State.{State, word_in, root_in}
use Rattle.memory.specs.declared.phase.Phase.TheVariants.{Idle, Marking}
use Rattle.heap.specs.Sound.{region}
use Rattle.model.specs.Graph.{Graph}
use Rattle.model.specs.declared.edits.Refusal.{Refusal}
use Rattle.model.specs.declared.edits.Refusal.TheVariants.{NoSpace}
use Rattle.memory.specs.Edits.{named_by, reference_to}
use Rattle.memory.specs.Graph.{graph_in}
use Rattle.tables.specs.Regions.{room, free_count}

-- the objects of a heap, by their places
abbrev pub graph_of : State → Graph
graph_of s = graph_in s

-- no word outside the regions differs, nor what the store holds besides its words
pub record Outside (s t : State) : Type 0 where
  pub words : (k : ℕ) → 1024 * s.regions.count ≤ k → word_in t k ≡ word_in s k
  pub spare : t.spare ≡ s.spare
  pub count : t.regions.count ≡ s.regions.count

-- an object is made at p with the header h and a body of zeros, and the root holds it; every other object is as it was
pub record Made (S : Shape) (s t : State) (root h p : ℕ) : Type 0 where
  pub fresh : s.starts p ≡ false
  pub near : p < 32768
  pub starts : (q : ℕ) → t.starts q ≡ cond (q == p) true (s.starts q)
  pub head : word_in t p ≡ h
  pub body : (i : ℕ) → 1 ≤ i → i < S.size h → word_in t (p + i) ≡ 0
  pub others : (q i : ℕ) → s.starts q ≡ true → i < S.size (word_in s q) → word_in t (q + i) ≡ word_in s (q + i)
  pub roots : t.roots ≡ slice_set s.roots root (Some p)

-- the word at position i of the object at p becomes w; every other word of an object is as it was
pub record Wrote (S : Shape) (s t : State) (p i w : ℕ) : Type 0 where
  pub starts : (q : ℕ) → t.starts q ≡ s.starts q
  pub there : word_in t (p + i) ≡ w
  pub others : (q j : ℕ) → s.starts q ≡ true → j < S.size (word_in s q) → (q ≡ p → j ≢ i) → word_in t (q + j) ≡ word_in s (q + j)
  pub roots : t.roots ≡ s.roots

-- root k holds v; every object is as it was
pub record Held (s t : State) (k : ℕ) (v : Option ℕ) : Type 0 where
  pub starts : t.starts ≡ s.starts
  pub words : t.words ≡ s.words
  pub roots : t.roots ≡ slice_set s.roots k v

-- the marks and the phase are as they were
pub record SameMarks (s t : State) : Type 0 where
  pub marked : (q : ℕ) → t.marks.marked q ≡ s.marks.marked q
  pub pending : (q : ℕ) → t.marks.pending q ≡ s.marks.pending q
  pub phase : t.phase ≡ s.phase

-- while marking, the object that an old reference names is marked, and pending if it was not marked before; no other mark
-- changes
pub record Guards (s t : State) (old : ℕ) : Type 0 where
  pub phase : t.phase ≡ s.phase
  pub named : s.phase ≡ Marking → (q : ℕ) → old ≡ suc q → t.marks.marked q ≡ true
  pub kept : (q : ℕ) → s.marks.marked q ≡ true → t.marks.marked q ≡ true
  pub awaits : (q : ℕ) → s.marks.pending q ≡ true → t.marks.pending q ≡ true
  pub only : (q : ℕ) → t.marks.marked q ≡ true → s.marks.marked q ≡ false → (old ≡ suc q) × (t.marks.pending q ≡ true)
  pub no_more : (q : ℕ) → t.marks.pending q ≡ true → (s.marks.pending q ≡ true) ⊎ (s.marks.marked q ≡ false)

-- unless the phase is idle, the new object of n words at p is marked and counted live; it is not pending
pub record Births (s t : State) (p n : ℕ) : Type 0 where
  pub phase : t.phase ≡ s.phase
  pub marked : (s.phase ≢ Idle) → t.marks.marked p ≡ true
  pub others : (q : ℕ) → (q ≢ p) → t.marks.marked q ≡ s.marks.marked q
  pub pending : (q : ℕ) → t.marks.pending q ≡ s.marks.pending q
  pub counted : (s.phase ≢ Idle) → (region t (p / 1024)).live ≡ (region s (p / 1024)).live + n

-- a call that is granted does its work, and one that is refused alters nothing
abbrev pub Granting : State → State → Type 0 → Result (Unit {0}) Refusal → Type 0
Granting s t Work (Ok done) = Work
Granting s t Work (Err why) = t ≡ s

-- new makes an object at some place
abbrev pub Makes : Shape → State → State → ℕ → ℕ → Result (Unit {0}) Refusal → Type 0
Makes S s t root h r = Granting s t ((p : ℕ) × Made S s t root h p × Births s t p (S.size h)) r

-- new is refused for want of space only where the open region has no room and fewer than two regions are free
abbrev pub Spaceless : Shape → State → ℕ → Result (Unit {0}) Refusal → Type 0
Spaceless S s h r = r ≡ Err NoSpace → (room s.regions (S.size h) ≡ false) × (free_count s.regions < 2)

-- set writes the reference of root k, or nil, into the object at root i
abbrev pub Sets : Shape → State → State → ℕ → ℕ → ℕ → Result (Unit {0}) Refusal → Type 0
Sets S s t i position k r =
    Granting s t
    ((p : ℕ) × (root_in s i ≡ Some p) × (S.reference (word_in s p) position ≡ true) × Wrote S s t p position (reference_to (root_in s k)) × Guards s t (word_in s (p + position)))
    r

-- get makes root k hold what the reference in the object at root i names
abbrev pub Gets : Shape → State → State → ℕ → ℕ → ℕ → Result (Unit {0}) Refusal → Type 0
Gets S s t i position k r =
    Granting s t
    ((p : ℕ) × (root_in s i ≡ Some p) × (S.reference (word_in s p) position ≡ true) × Held s t k (named_by (word_in s (p + position))) × SameMarks s t)
    r

-- put writes a word into the object at root i
abbrev pub Puts : Shape → State → State → ℕ → ℕ → ℕ → Result (Unit {0}) Refusal → Type 0
Puts S s t i position word r =
    Granting s t
    ((p : ℕ) × (root_in s i ≡ Some p) × (plain S (word_in s p) position ≡ true) × Wrote S s t p position word × SameMarks s t)
    r

-- copy and clear change a root
abbrev pub Copies : State → State → ℕ → ℕ → Result (Unit {0}) Refusal → Type 0
Copies s t i k r = Granting s t (Held s t k (root_in s i) × SameMarks s t) r

abbrev pub Clears : State → State → ℕ → Result (Unit {0}) Refusal → Type 0
Clears s t i r = Granting s t (Held s t i None × SameMarks s t) r
