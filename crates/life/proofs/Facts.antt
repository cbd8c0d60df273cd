-- What is true while a marking is under way, and when it is done. The snapshot m₀ is the heap that never collects as it stood
-- when the marking began; m is the same heap now, ν how the objects of the heap t are numbered there, and xs the numbers of the
-- objects scanned since.
use Rattle.std.proofs.Common.{◌≡◌, ℕ, suc, ◌+◌, ◌<◌, ◌≤◌, true, false, ◌⊎◌, List, length}
use Rattle.image.specs.Content.{Content}
use Rattle.layout.specs.Shape.{Shape}
use Rattle.memory.specs.State.{State, word_in}
use Rattle.memory.specs.declared.phase.Phase.{Phase}
use Rattle.memory.specs.declared.phase.Phase.TheVariants.{Idle, Marking, Marked}
use Rattle.model.specs.Edits.{held, object_at, word_at}
use Rattle.model.proofs.Contents.{Whole}
use Rattle.life.specs.Snapshot.{Reached, Known, among, Single}

-- what is true from the begin on: nothing but what was reached then, or was made since, can be named through a root
pub record Stands (S : Shape) (t : State) (m : Content) (ν : ℕ → ℕ) (m₀ : Content) : Type 0 where
  pub whole : Whole S m₀
  pub grown : length m₀.objects ≤ length m.objects
  pub heads : (n : ℕ) → n < length m₀.objects → (object_at m.objects n).header ≡ (object_at m₀.objects n).header
  pub roots : (k n : ℕ) → held m k ≡ suc n → Known S m₀ n
  pub fields : (o i n : ℕ) → Known S m₀ o → S.reference (object_at m.objects o).header i ≡ true
      → word_at (object_at m.objects o) i ≡ suc n → Known S m₀ n
  -- what was reached is still there
  pub there : (n : ℕ) → Reached S m₀ n → (p : ℕ) × (t.starts p ≡ true) × (ν p ≡ n)
  -- what was made since is marked, and nothing is marked but what was reached or made since
  pub made : (p : ℕ) → t.starts p ≡ true → length m₀.objects ≤ ν p → t.marks.marked p ≡ true
  pub known : (p : ℕ) → t.marks.marked p ≡ true → Known S m₀ (ν p)

-- the object at p is not scanned yet
abbrev pub Unscanned : State → ℕ → Type 0
Unscanned t p = (t.marks.marked p ≡ false) ⊎ (t.marks.pending p ≡ true)

pub record Underway (S : Shape) (t : State) (m : Content) (ν : ℕ → ℕ) (m₀ : Content) (xs : List ℕ) : Type 0 where
  pub stands : Stands S t m ν m₀
  -- what is pending was reached
  pub waiting : (p : ℕ) → t.marks.pending p ≡ true → Reached S m₀ (ν p)
  -- what a root held is marked
  pub rooted : (k p : ℕ) → t.starts p ≡ true → held m₀ k ≡ suc (ν p) → t.marks.marked p ≡ true
  -- what a reference of a reached object held is marked, or the object is not scanned yet and the reference still stands
  pub kept : (p i q : ℕ) → t.starts p ≡ true → Reached S m₀ (ν p) → S.reference (word_in t p) i ≡ true → t.starts q ≡ true
      → word_at (object_at m₀.objects (ν p)) i ≡ suc (ν q) → (t.marks.marked q ≡ true) ⊎ (Unscanned t p × (word_in t (p + i) ≡ suc q))
  -- the scanned objects are listed, each once
  pub single : Single xs
  pub listed : (p : ℕ) → t.starts p ≡ true → Reached S m₀ (ν p) → t.marks.marked p ≡ true → t.marks.pending p ≡ false → among xs (ν p) ≡ true
  pub scanned : (p : ℕ) → t.starts p ≡ true → among xs (ν p) ≡ true → (t.marks.marked p ≡ true) × (t.marks.pending p ≡ false)
  pub found : (n : ℕ) → among xs n ≡ true → Reached S m₀ n

pub record Over (S : Shape) (t : State) (m : Content) (ν : ℕ → ℕ) (m₀ : Content) (xs : List ℕ) : Type 0 where
  pub stands : Stands S t m ν m₀
  pub all : (p : ℕ) → t.starts p ≡ true → Reached S m₀ (ν p) → t.marks.marked p ≡ true
  pub single : Single xs
  pub listed : (n : ℕ) → Reached S m₀ n → among xs n ≡ true
  pub found : (n : ℕ) → among xs n ≡ true → Reached S m₀ n

abbrev pub FactsIn : Shape → State → Content → (ℕ → ℕ) → Content → List ℕ → Phase → Type 0
FactsIn S t m ν m₀ xs Idle = Unit {0}
FactsIn S t m ν m₀ xs Marking = Underway S t m ν m₀ xs
FactsIn S t m ν m₀ xs Marked = Over S t m ν m₀ xs

abbrev pub Facts : Shape → State → Content → (ℕ → ℕ) → Content → List ℕ → Type 0
Facts S t m ν m₀ xs = FactsIn S t m ν m₀ xs t.phase

-- an object n is named by a reference of an object that a root holds
pub record Named (S : Shape) (m : Content) (n : ℕ) : Type 0 where
  pub root : ℕ
  pub object : ℕ
  pub position : ℕ
  pub held-there : held m root ≡ suc object
  pub reference : S.reference (object_at m.objects object).header position ≡ true
  pub word : word_at (object_at m.objects object) position ≡ suc n

-- all that an edit, from s and m to t and m', does that a marking must know of
pub record Edits (S : Shape) (s t : State) (m m' : Content) (ν ν' : ℕ → ℕ) : Type 0 where
  pub phase : t.phase ≡ s.phase
  pub grown : length m.objects ≤ length m'.objects
  pub heads : (n : ℕ) → n < length m.objects → (object_at m'.objects n).header ≡ (object_at m.objects n).header
  -- objects stay where they are, under their numbers; a new one has a new number
  pub stays : (q : ℕ) → s.starts q ≡ true → (t.starts q ≡ true) × (ν' q ≡ ν q) × (word_in t q ≡ word_in s q)
  pub new-one : (q : ℕ) → t.starts q ≡ true → (s.starts q ≡ true) ⊎ ((s.starts q ≡ false) × (length m.objects ≤ ν' q))
  -- marks and pending objects stay; what becomes marked becomes pending, and was named through a root; a new object is marked
  -- and not pending, unless the phase is idle
  pub kept : (q : ℕ) → s.marks.marked q ≡ true → t.marks.marked q ≡ true
  pub awaits : (q : ℕ) → s.marks.pending q ≡ true → t.marks.pending q ≡ true
  pub only : (q : ℕ) → s.starts q ≡ true → t.marks.marked q ≡ true → s.marks.marked q ≡ false → (t.marks.pending q ≡ true) × Named S m (ν q)
  pub no_more : (q : ℕ) → t.marks.pending q ≡ true → (s.marks.pending q ≡ true) ⊎ ((s.starts q ≡ true) × (s.marks.marked q ≡ false))
  pub born : (s.phase ≡ Idle → ⊥) → (q : ℕ) → t.starts q ≡ true → s.starts q ≡ false → (t.marks.marked q ≡ true) × (t.marks.pending q ≡ false)
  -- a reference still stands, or what it named is marked while marking
  pub written : (p i q : ℕ) → s.starts p ≡ true → S.reference (word_in s p) i ≡ true → s.starts q ≡ true → word_in s (p + i) ≡ suc q
      → (word_in t (p + i) ≡ suc q) ⊎ (s.phase ≡ Marking → t.marks.marked q ≡ true)
  -- a root, and a reference, names what a root named, or what such an object's reference named, or what is new
  pub roots : (k n : ℕ) → held m' k ≡ suc n → ((j : ℕ) × (held m j ≡ suc n)) ⊎ (Named S m n ⊎ (length m.objects ≤ n))
  pub fields : (o i n : ℕ) → S.reference (object_at m'.objects o).header i ≡ true → word_at (object_at m'.objects o) i ≡ suc n
      → ((S.reference (object_at m.objects o).header i ≡ true) × (word_at (object_at m.objects o) i ≡ suc n)) ⊎ ((j : ℕ) × (held m j ≡ suc n))
