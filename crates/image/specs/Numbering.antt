-- When the objects of a content are numbered as they are first met, and the law of the reader.
use Rattle.std.specs.Prelude.{◌≡◌, ℕ, ◌+◌, ◌-◌, ◌^◌, ◌<◌, ◌≤◌, max, true, ◌↔◌, List, [], ◌∷◌, length, Ok}
use Rattle.layout.specs.Shape.{Shape}
use Rattle.image.specs.declared.strict.Role.{Role}
use Rattle.image.specs.declared.strict.Role.TheVariants as role
use Rattle.image.specs.Content.{Object, Content, written}
use Rattle.image.specs.Read.{root_role, body_role, read}

-- a value may stand in its role: a reference names one of n objects, and is at most one above the greatest so far, m
abbrev pub Admitted : Role → ℕ → ℕ → ℕ → Type 0
Admitted role.Plain n m v = v < 2 ^ 32
Admitted role.Reference n m v = (v ≤ n) × (v ≤ m + 1)
Admitted role.LastRoot n m v = (v ≤ n) × (v ≤ m + 1) × (0 < v)

-- the greatest reference after a value
abbrev pub greatest : Role → ℕ → ℕ → ℕ
greatest role.Plain m v = m
greatest role.Reference m v = max m v
greatest role.LastRoot m v = max m v

-- the greatest reference after values, the first of them at position i
abbrev pub greatest_of : (ℕ → Role) → ℕ → ℕ → List ℕ → ℕ
greatest_of r i m [] = m
greatest_of r i m (v ∷ vs) = greatest_of r (i + 1) (greatest (r i) m v) vs

-- references are numbered as they are first met
abbrev pub Numbered : (ℕ → Role) → ℕ → ℕ → ℕ → List ℕ → Type 0
Numbered r n i m [] = Unit {0}
Numbered r n i m (v ∷ vs) = Admitted (r i) n m v × Numbered r n (i + 1) (greatest (r i) m v) vs

-- objects from number k on: each was referred to before, has a legal header and as many words as it says, and goes on with the numbering
abbrev pub Ordered : Shape → ℕ → ℕ → ℕ → List Object → Type 0
Ordered S n k m [] = Unit {0}
Ordered S n k m (o ∷ os) =
    (k ≤ m) × (o.header < 2 ^ 32) × (S.legal o.header ≡ true) × (length o.body ≡ S.size o.header - 1)
    × Numbered (body_role S o.header) n 1 m o.body
    × Ordered S n (k + 1) (greatest_of (body_role S o.header) 1 m o.body) os

-- a content whose objects are numbered as they are first met, with no nil after its last root
pub record WellNumbered (S : Shape) (c : Content) : Type 0 where
  pub few_objects : length c.objects < 2 ^ 32
  pub few_roots : length c.roots ≤ 64
  pub roots : Numbered (root_role (length c.roots)) (length c.objects) 0 0 c.roots
  pub objects : Ordered S (length c.objects) 1 (greatest_of (root_role (length c.roots)) 0 0 c.roots) c.objects

-- exactly the written forms of well-numbered contents are accepted, each with its content
abbrev pub Exact : Shape → List ℕ → Type 0
Exact S bs = (c : Content) → (read S bs ≡ Ok c) ↔ (WellNumbered S c × (bs ≡ written S c))
