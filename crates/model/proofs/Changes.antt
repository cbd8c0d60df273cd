-- Changes of objects and references, for a heap and for a model alike.
use Rattle.std.proofs.Common.{◌≡◌, ℕ, suc, true, cond, ◌&&◌, eqb}
use Rattle.layout.specs.Shape.{Shape}
use Rattle.model.specs.Graph.{Graph, Reach}

-- the word at position i of the object p becomes v
abbrev pub write : Graph → ℕ → ℕ → ℕ → Graph
write g p i v = record { node = g.node; head = g.head; field = λ q j. cond (eqb q p && eqb j i) v (g.field q j); root = g.root }

-- root k holds v
abbrev pub hold : Graph → ℕ → ℕ → Graph
hold g k v = record { node = g.node; head = g.head; field = g.field; root = λ j. cond (eqb j k) v (g.root j) }

-- one more object, p, with a header and a body of zeros
abbrev pub add : Graph → ℕ → ℕ → Graph
add g p h =
    record {
      node = λ q. cond (eqb q p) true (g.node q);
      head = λ q. cond (eqb q p) h (g.head q);
      field = λ q j. cond (eqb q p) 0 (g.field q j);
      root = g.root;
    }

-- a reference of the heap and the model's: nil and nil, or an object that the model's roots reach and its number
pub data Matched (S : Shape) (h m : Graph) (ν : ℕ → ℕ) : ℕ → ℕ → Type 0 where
  nil : Matched S h m ν 0 0
  object : (q : ℕ) → h.node q ≡ true → Reach S m (ν q) → Matched S h m ν (suc q) (suc (ν q))
