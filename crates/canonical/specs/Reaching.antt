-- What is saved is what the roots reach, each object once.
use Rattle.std.specs.Prelude.{◌≡◌, ℕ, suc, ◌<◌, ◌↔◌, length, Contains, slice_index}
use Rattle.layout.specs.Shape.{Shape}
use Rattle.model.specs.Graph.{Graph, Reach}
use Rattle.canonical.specs.Saving.{order, content_of, Within}

-- The objects that are saved, by the values in the order.
pub record Reaching (S : Shape) (g : Graph) (n : ℕ) : Type 0 where
  -- nil comes first, and for each value after it an object is saved
  pub nil : slice_index (order S g n) 0 ≡ 0
  pub count : suc (length (content_of S g n).objects) ≡ length (order S g n)
  -- an object has a value in the order exactly if the roots reach it
  pub reached : (o : ℕ) → Contains (order S g n) (suc o) ↔ Reach S g o
  -- and no value stands there twice
  pub once : (i j : ℕ) → i < length (order S g n) → j < length (order S g n) →
      slice_index (order S g n) i ≡ slice_index (order S g n) j → i ≡ j

-- each object that the roots reach is saved once, and no other
abbrev pub EachReachedOnce : Shape → Type 0
EachReachedOnce S = (g : Graph) (n : ℕ) → Within S g n → Reaching S g n
