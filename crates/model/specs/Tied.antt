-- The tie between a heap and the heap that never collects.
use Rattle.std.specs.Prelude.{◌≡◌, ℕ, suc, true, ◌≢◌}
use Rattle.layout.specs.Shape.{Shape, plain}
use Rattle.model.specs.Graph.{Graph, Reach}

-- The heap h shows the planner the model m. ν p is the number, less 1, of the object at place p. What no root reaches may have
-- lost its references, so nothing is said of these but that the objects they named are gone.
pub record Tied (S : Shape) (h m : Graph) (ν : ℕ → ℕ) : Type 0 where
  -- each object of the heap has a number, and no two have the same
  pub numbered : (p : ℕ) → h.node p ≡ true → m.node (ν p) ≡ true
  pub distinct : (p q : ℕ) → h.node p ≡ true → h.node q ≡ true → ν p ≡ ν q → p ≡ q
  -- the roots agree: nil with nil, an object with its number
  pub root_nil : (k : ℕ) → h.root k ≡ 0 → m.root k ≡ 0
  pub root_there : (k q : ℕ) → h.root k ≡ suc q → h.node q ≡ true
  pub root_same : (k q : ℕ) → h.root k ≡ suc q → m.root k ≡ suc (ν q)
  -- headers and plain words agree
  pub heads : (p : ℕ) → h.node p ≡ true → h.head p ≡ m.head (ν p)
  pub plains : (p i : ℕ) → h.node p ≡ true → plain S (h.head p) i ≡ true → h.field p i ≡ m.field (ν p) i
  -- a reference names an object of the heap, and its number stands in the model
  pub there : (p i q : ℕ) → h.node p ≡ true → S.reference (h.head p) i ≡ true → h.field p i ≡ suc q → h.node q ≡ true
  pub same : (p i q : ℕ) → h.node p ≡ true → S.reference (h.head p) i ≡ true → h.field p i ≡ suc q → m.field (ν p) i ≡ suc (ν q)
  -- where the heap has nil, the model has nil, or the number of an object that is no longer in the heap
  pub lost : (p i q : ℕ) → h.node p ≡ true → S.reference (h.head p) i ≡ true → h.field p i ≡ 0 → h.node q ≡ true → m.field (ν p) i ≢ suc (ν q)
  -- whatever the model's roots reach is in the heap
  pub found : (n : ℕ) → Reach S m n → (p : ℕ) × (h.node p ≡ true) × (ν p ≡ n)
