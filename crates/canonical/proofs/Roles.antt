-- An image says by the role of a value whether it is a reference, a graph by its position. The two say the same: in an object the
-- references stand at the reference positions of its header; among the roots all are references, and the last is not nil.
use Rattle.std.proofs.Common.{◌≡◌, ℕ, zero, suc, ◌+◌, ◌-◌, ◌^◌, ◌<◌, max, Bool, true, false, cond, eqb, List, [], ◌∷◌, length, get_or, sym, refl, ap, ◌∙◌, subst, inl, inr, arith}
use Rattle.std.proofs.lemmas.Bool.{cases_eq, eq-eqb, eqb-true}
use Rattle.layout.specs.Shape.{Shape}
use Rattle.image.specs.Content.{Object}
use Rattle.image.specs.Read.{root_role, body_role}
use Rattle.image.specs.Numbering.{Admitted, greatest, greatest_of, Numbered, Ordered}
use Rattle.model.specs.Edits.{object_at}
use Rattle.canonical.proofs.Words.{always}
use Rattle.canonical.proofs.Turns.{MayStand, after, after_all, InTurn}

-- a layout in which every position, or none, holds a reference: it has the two roles of a body
abbrev one_role : Bool → Shape
one_role t = record { sign = 1; sample = 0; legal = λ h. true; size = λ h. 1; reference = λ h i. t }

module _ (S : Shape) (h : ℕ) where
  greatest_after : (t : Bool) (m v : ℕ) → greatest (body_role (one_role t) 0 0) m v ≡ after t m v
  greatest_after true m v = refl
  greatest_after false m v = refl

  pub body_after : (i m : ℕ) (vs : List ℕ) → greatest_of (body_role S h) i m vs ≡ after_all (S.reference h) i m vs
  body_after i m [] = refl
  body_after i m (v ∷ vs) =
      ap (λ x. greatest_of (body_role S h) (i + 1) x vs) (greatest_after (S.reference h i) m v)
      ∙ body_after (i + 1) (after (S.reference h i) m v) vs

  pub turn_from_body : (n i m : ℕ) (vs : List ℕ) → Numbered (body_role S h) n i m vs → InTurn (S.reference h) n i m vs
  turn_from_body n i m [] a = tt
  turn_from_body n i m (v ∷ vs) a = (
    by (S.reference h i) a.0,
    turn_from_body n (i + 1) (after (S.reference h i) m v) vs (subst (λ x. Numbered (body_role S h) n (i + 1) x vs) (greatest_after (S.reference h i) m v) a.1),
  )
    where
      by : (t : Bool) → Admitted (body_role (one_role t) 0 0) n m v → MayStand t n m v
      by true b = b
      by false b = b

  pub body_from_turn : (n i m : ℕ) (vs : List ℕ) → InTurn (S.reference h) n i m vs → Numbered (body_role S h) n i m vs
  body_from_turn n i m [] a = tt
  body_from_turn n i m (v ∷ vs) a = (
    by (S.reference h i) a.0,
    subst (λ x. Numbered (body_role S h) n (i + 1) x vs) (sym (greatest_after (S.reference h i) m v)) (body_from_turn n (i + 1) (after (S.reference h i) m v) vs a.1),
  )
    where
      by : (t : Bool) → MayStand t n m v → Admitted (body_role (one_role t) 0 0) n m v
      by true b = b
      by false b = b

module _ (l : ℕ) where
  greatest_root : (t : Bool) (m v : ℕ) → greatest (cond t (root_role 1 0) (root_role 0 0)) m v ≡ max m v
  greatest_root true m v = refl
  greatest_root false m v = refl

  pub root_after : (i m : ℕ) (vs : List ℕ) → greatest_of (root_role l) i m vs ≡ after_all always i m vs
  root_after i m [] = refl
  root_after i m (v ∷ vs) =
      ap (λ x. greatest_of (root_role l) (i + 1) x vs) (greatest_root (eqb (i + 1) l) m v) ∙ root_after (i + 1) (max m v) vs

  pub turn_from_roots : (n i m : ℕ) (vs : List ℕ) → Numbered (root_role l) n i m vs → InTurn always n i m vs
  turn_from_roots n i m [] a = tt
  turn_from_roots n i m (v ∷ vs) a = (
    by (eqb (i + 1) l) a.0,
    turn_from_roots n (i + 1) (max m v) vs (subst (λ x. Numbered (root_role l) n (i + 1) x vs) (greatest_root (eqb (i + 1) l) m v) a.1),
  )
    where
      by : (t : Bool) → Admitted (cond t (root_role 1 0) (root_role 0 0)) n m v → MayStand true n m v
      by true b = (b.0, b.1)
      by false b = b

  -- the last of l roots is not nil
  pub root_last : (n i m : ℕ) (vs : List ℕ) → Numbered (root_role l) n i m vs → i + length vs ≡ l → (k : ℕ) → length vs ≡ suc k → get_or vs k 0 ≡ 0 → ⊥
  root_last n i m [] a e k s z = omega arith
  root_last n i m (v ∷ []) a e zero s z = by (eqb (i + 1) l) (eq-eqb (i + 1) l e) a.0
    where
      by : (t : Bool) → t ≡ true → Admitted (cond t (root_role 1 0) (root_role 0 0)) n m v → ⊥
      by true f b = omega (arith, b.2)
      by false f b = cc
  root_last n i m (v ∷ []) a e (suc k) s z = omega arith
  root_last n i m (v ∷ u ∷ vs) a e zero s z = omega arith
  root_last n i m (v ∷ u ∷ vs) a e (suc k) s z = root_last n (i + 1) (greatest (root_role l i) m v) (u ∷ vs) a.1 (omega arith) k (omega arith) z

  pub roots_from_turn : (n i m : ℕ) (vs : List ℕ) → InTurn always n i m vs → i + length vs ≡ l → ((k : ℕ) → length vs ≡ suc k → get_or vs k 0 ≡ 0 → ⊥) → Numbered (root_role l) n i m vs
  roots_from_turn n i m [] a e last = tt
  roots_from_turn n i m (v ∷ vs) a e last = (
    by (eqb (i + 1) l) (eqb-true (i + 1) l) a.0,
    subst (λ x. Numbered (root_role l) n (i + 1) x vs) (sym (greatest_root (eqb (i + 1) l) m v))
        (roots_from_turn n (i + 1) (max m v) vs a.1 (omega arith) (λ k s. last (suc k) (ap suc s))),
  )
    where
      by : (t : Bool) → (t ≡ true → i + 1 ≡ l) → MayStand true n m v → Admitted (cond t (root_role 1 0) (root_role 0 0)) n m v
      by true f b = (b.0, b.1, pos)
        where
          pos : 0 < v
          pos = elim (cases_eq v 0) [ inl z ↦ absurd (last 0 (let g : i + 1 ≡ l = f refl in omega arith) z) | inr d ↦ omega arith ]
      by false f b = b

-- what is known of one object of a content that is numbered as first met
pub record Sound (S : Shape) (n : ℕ) (o : Object) : Type 0 where
  pub wide : o.header < 2 ^ 32
  pub legal : S.legal o.header ≡ true
  pub long : length o.body ≡ S.size o.header - 1
  pub before : ℕ
  pub turn : InTurn (S.reference o.header) n 1 before o.body

pub ordered_at : (S : Shape) (n k m : ℕ) (os : List Object) → Ordered S n k m os → (j : ℕ) → j < length os → Sound S n (object_at os j)
ordered_at S n k m [] a j l = absurd (omega arith)
ordered_at S n k m (o ∷ os) (due, wide, legal, long, numbered, more) zero l =
    record { wide = wide; legal = legal; long = long; before = m; turn = turn_from_body S o.header n 1 m o.body numbered }
ordered_at S n k m (o ∷ os) (due, wide, legal, long, numbered, more) (suc j) l =
    ordered_at S n (k + 1) (greatest_of (body_role S o.header) 1 m o.body) os more j (omega arith)
