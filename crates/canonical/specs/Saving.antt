-- The content that is saved of a graph: what its roots reach, numbered as first met.
use Rattle.std.specs.Prelude.{◌≡◌, ℕ, zero, suc, ◌+◌, ◌-◌, ◌^◌, ◌<◌, ◌≤◌, Bool, true, cond, List, [], ◌∷◌, map, drop, ◌==◌}
use Rattle.std.specs.List.{range_with_len}
use Rattle.layout.specs.Shape.{Shape, plain}
use Rattle.image.specs.Content.{Content, Object}
use Rattle.model.specs.Graph.{Graph, Reach}
use Rattle.canonical.specs.Walk.{place_of, all_met, walked}

-- of words, the first of them at position i, those at reference positions
abbrev pub references : (ℕ → Bool) → ℕ → List ℕ → List ℕ
references is_reference i [] = []
references is_reference i (v ∷ vs) =
    cond (is_reference i) (v ∷ references is_reference (i + 1) vs) (references is_reference (i + 1) vs)

-- the same words, with f of each reference in its place
abbrev pub renumbered : (ℕ → Bool) → (ℕ → ℕ) → ℕ → List ℕ → List ℕ
renumbered is_reference f i [] = []
renumbered is_reference f i (v ∷ vs) = cond (is_reference i) (f v) v ∷ renumbered is_reference f (i + 1) vs

-- the words of an object after its header
abbrev pub words_of : Shape → Graph → ℕ → List ℕ
words_of S g o = map (g.field o) (range_with_len 1 (S.size (g.head o) - 1))

-- what a value refers to, in the order of positions; nil refers to nothing
abbrev pub referred : Shape → Graph → ℕ → List ℕ
referred S g zero = []
referred S g (suc o) = references (S.reference (g.head o)) 1 (words_of S g o)

-- of the first n roots, how many there are up to the last that is not nil
abbrev pub used : (ℕ → ℕ) → ℕ → ℕ
used root zero = 0
used root (suc n) = cond (root n == 0) (used root n) (suc n)

-- how many of the 64 roots are saved: one more than the number of the last that is not nil, or 0 where all are nil
unfoldable pub root_count : Graph → ℕ
root_count g = used g.root 64

-- the roots that are saved
abbrev pub roots_of : Graph → List ℕ
roots_of g = map g.root (range_with_len 0 (root_count g))

-- nil and what the roots reach, as first met: by the roots, and then by object after object. Values up to n are at most n + 1,
-- so that as many steps reach the end
abbrev pub order : Shape → Graph → ℕ → List ℕ
order S g n = walked (referred S g) (suc n) 0 (all_met (roots_of g) (0 ∷ []))

-- the number of a value is its place in the order
abbrev pub number : Shape → Graph → ℕ → ℕ → ℕ
number S g n v = place_of v (order S g n)

-- the object that a value refers to, with its references renumbered by f
abbrev pub object_of : Shape → Graph → (ℕ → ℕ) → ℕ → Object
object_of S g f zero = record { header = 0; body = [] }
object_of S g f (suc o) =
    record { header = g.head o; body = renumbered (S.reference (g.head o)) f 1 (words_of S g o) }

-- what is saved of a graph that holds values up to n
abbrev pub content_of : Shape → Graph → ℕ → Content
content_of S g n =
    record {
      roots = map (number S g n) (roots_of g);
      objects = map (object_of S g (number S g n)) (drop 1 (order S g n));
    }

-- A graph holds references up to n. Of objects that no root reaches, nothing is asked.
pub record Within (S : Shape) (g : Graph) (n : ℕ) : Type 0 where
  -- the roots hold values up to n, and past the 64 roots is nil
  pub roots : (k : ℕ) → g.root k ≤ n
  pub past : (k : ℕ) → 64 ≤ k → g.root k ≡ 0
  -- so do the reference positions of objects
  pub references : (o i : ℕ) → Reach S g o → S.reference (g.head o) i ≡ true → g.field o i ≤ n

-- What is asked of a graph that is saved: it holds references up to n, and no more than an image can say.
pub record Whole (S : Shape) (g : Graph) (n : ℕ) : Type 0 where
  pub within : Within S g n
  -- the headers of objects are legal, and these and the plain words have 32 bits
  pub legal : (o : ℕ) → Reach S g o → S.legal (g.head o) ≡ true
  pub heads : (o : ℕ) → Reach S g o → g.head o < 2 ^ 32
  pub plains : (o i : ℕ) → Reach S g o → plain S (g.head o) i ≡ true → g.field o i < 2 ^ 32
