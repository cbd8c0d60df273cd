-- When two graphs are alike: their objects can be related, one to one, so that related objects look the same and the roots hold
-- values that match.
use Rattle.std.specs.Prelude.{◌≡◌, ℕ, zero, suc, Bool, true, ◌↔◌}
use Rattle.layout.specs.Shape.{Shape, plain}
use Rattle.model.specs.Graph.{Graph}
use Rattle.canonical.specs.Saving.{Within, Whole, content_of}

-- two values match by R: both are nil, or R relates the objects that they refer to
abbrev pub Match : (ℕ → ℕ → Type 0) → ℕ → ℕ → Type 0
Match R zero zero = Unit {0}
Match R zero (suc b) = ⊥
Match R (suc a) zero = ⊥
Match R (suc a) (suc b) = R a b

-- R relates objects of g with objects of h, both by their names.
pub record Matching (S : Shape) (g h : Graph) (R : ℕ → ℕ → Type 0) : Type 0 where
  -- no object is related with two
  pub one : (a b c d : ℕ) → R a b → R c d → (a ≡ c) ↔ (b ≡ d)
  -- the values that the roots hold match
  pub roots : (k : ℕ) → Match R (g.root k) (h.root k)
  -- related objects have the same header, references that match, and the same plain words
  pub heads : (a b : ℕ) → R a b → g.head a ≡ h.head b
  pub references : (a b i : ℕ) → R a b → S.reference (g.head a) i ≡ true → Match R (g.field a i) (h.field b i)
  pub plains : (a b i : ℕ) → R a b → plain S (g.head a) i ≡ true → g.field a i ≡ h.field b i

-- some relation matches the two
abbrev pub Alike : Shape → Graph → Graph → Type 0
Alike S g h = (r : ℕ → ℕ → Bool) × Matching S g h (λ a b. r a b ≡ true)

-- alike graphs have one content, whatever the names of their objects and the bounds of their values
abbrev pub OneContent : Shape → Type 0
OneContent S = (g h : Graph) (n m : ℕ) → Within S g n → Within S h m → Alike S g h → content_of S g n ≡ content_of S h m

-- graphs of one content are alike
abbrev pub AlikeFromContent : Shape → Type 0
AlikeFromContent S = (g h : Graph) (n m : ℕ) → Whole S g n → Whole S h m → content_of S g n ≡ content_of S h m → Alike S g h
