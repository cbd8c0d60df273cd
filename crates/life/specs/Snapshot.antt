-- What a marking finds: exactly what the roots reached when it began, and what was made since.
use Rattle.std.specs.Prelude.{◌≡◌, ℕ, suc, ◌*◌, ◌/◌, ◌<◌, ◌≤◌, Bool, true, false, cond, ◌⊎◌, List, [], ◌∷◌, length, Ok, Err, Result, ◌==◌}
use Rattle.heap.specs.Sound.{region, size_at}
use Rattle.heap.specs.Tiles.{total, held_by}
use Rattle.image.specs.Content.{Content}
use Rattle.layout.specs.Shape.{Shape}
use Rattle.marking.specs.Scanning.{mark_step}
use Rattle.marking.specs.declared.scanning.Marked.TheVariants.{Scanned as OneScanned, Done as AllDone}
use Rattle.memory.specs.State.{State}
use Rattle.memory.specs.declared.phase.Phase.TheVariants.{Marking, Marked}
use Rattle.model.specs.Edits.{graph_of}
use Rattle.model.specs.Graph.{Reach}
use Rattle.model.specs.declared.edits.Refusal.{Refusal}
use Rattle.life.specs.declared.calls.Call.{Call}
use Rattle.life.specs.declared.calls.Answer.{Answer}
use Rattle.life.specs.declared.calls.Answer.TheVariants.{Edit as Replied, Begun, Mark as ByMark, Refine as ByRefine}

-- the object of number n + 1 was reached by the roots at the last granted begin
abbrev pub Reached : Shape → Content → ℕ → Type 0
Reached S m n = Reach S (graph_of m) n

-- or it was made since
abbrev pub Known : Shape → Content → ℕ → Type 0
Known S m n = Reached S m n ⊎ (length m.objects ≤ n)

-- it was made before, and was not reached then
abbrev pub Stale : Shape → Content → ℕ → Type 0
Stale S m n = (n < length m.objects) × (Reached S m n → ⊥)

-- how many objects were scanned since the last granted begin, as the answers tell, after n before
abbrev pub scan_count_of : Result Answer Refusal → ℕ → ℕ
scan_count_of (Ok (Replied r)) n = n
scan_count_of (Ok Begun) n = 0
scan_count_of (Ok (ByMark OneScanned)) n = suc n
scan_count_of (Ok (ByMark AllDone)) n = n
scan_count_of (Ok (ByRefine x)) n = n
scan_count_of (Err why) n = n

abbrev pub scan_count : List Call → List (Result Answer Refusal) → ℕ → ℕ
scan_count [] os n = n
scan_count (c ∷ cs) [] n = n
scan_count (c ∷ cs) (o ∷ os) n = scan_count cs os (scan_count_of o n)

abbrev pub among : List ℕ → ℕ → Bool
among [] n = false
among (x ∷ xs) n = cond (n == x) true (among xs n)

-- no number twice
abbrev pub Single : List ℕ → Type 0
Single [] = Unit {0}
Single (x ∷ xs) = (among xs x ≡ false) × Single xs

-- there were exactly n objects reached at the last granted begin: a list of them, each once, has n members
pub record Counts (S : Shape) (m : Content) (n : ℕ) : Type 0 where
  pub list : List ℕ
  pub single : Single list
  pub all : (o : ℕ) → Reached S m o → among list o ≡ true
  pub only : (o : ℕ) → among list o ≡ true → Reached S m o
  pub number : length list ≡ n

-- In the phase marked the marked objects of a heap t are exactly those reached at the last granted begin, when the heap that
-- never collects stood as m, and those made since; all of the former are still there. ν is how objects are numbered.
pub record Exactly (S : Shape) (t : State) (ν : ℕ → ℕ) (m : Content) : Type 0 where
  pub known : (p : ℕ) → t.starts p ≡ true → t.marks.marked p ≡ true → Known S m (ν p)
  pub marked : (p : ℕ) → t.starts p ≡ true → Known S m (ν p) → t.marks.marked p ≡ true
  pub there : (n : ℕ) → Reached S m n → (p : ℕ) × (t.starts p ≡ true) × (ν p ≡ n)

-- what is promised of marking after a life in which n objects were scanned since the last granted begin
pub record Snapshot (S : Shape) (t : State) (ν : ℕ → ℕ) (m : Content) (n : ℕ) : Type 0 where
  pub exact : t.phase ≡ Marked → Exactly S t ν m
  -- as many scans as objects reached then
  pub counted : t.phase ≡ Marked → Counts S m n
  -- once there are as many, the next mark answers done
  pub ending : t.phase ≡ Marking → Counts S m n → (mark_step S t).0 ≡ Ok AllDone
  -- each live count is the words of the region's marked objects
  pub weighed : t.phase ≡ Marked → (g : ℕ) → (region t g).live ≡ total (held_by t.marks.marked (size_at S t)) (1024 * g) 1024
  -- a region with a live count below its fill holds a stale object
  pub garbage : t.phase ≡ Marked → (g : ℕ) → (region t g).live < (region t g).fill
      → (p : ℕ) × (t.starts p ≡ true) × (p / 1024 ≡ g) × Stale S m (ν p)
