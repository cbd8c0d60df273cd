-- Words whose references are numbered in turn: each is at most one above the greatest before it. So where the values met are
-- 0, .., m, meeting the references makes them the values up to the greatest.
use Rattle.std.proofs.Common.{◌≡◌, ℕ, zero, suc, ◌+◌, ◌^◌, ◌<◌, ◌≤◌, max, Bool, true, false, cond, List, [], ◌∷◌, length, get_or, refl, ap, ◌∙◌, subst, arith}
use Rattle.std.specs.List.{AllByRecursion as Each}
use Rattle.canonical.specs.Walk.{all_met}
use Rattle.canonical.specs.Saving.{references}
use Rattle.canonical.proofs.Upto.{upto, met-upto}

-- what may stand at a reference position where m is the greatest reference so far of n, and what at another
abbrev pub MayStand : Bool → ℕ → ℕ → ℕ → Type 0
MayStand true n m v = (v ≤ n) × (v ≤ m + 1)
MayStand false n m v = v < 2 ^ 32

-- the greatest reference after a word
abbrev pub after : Bool → ℕ → ℕ → ℕ
after true m v = max m v
after false m v = m

-- what stands at a position, whatever came before
abbrev pub Stands : Bool → ℕ → ℕ → Type 0
Stands true n v = v ≤ n
Stands false n v = v < 2 ^ 32

module _ (is : ℕ → Bool) where
  -- the greatest reference after words, the first of them at position i
  abbrev pub after_all : ℕ → ℕ → List ℕ → ℕ
  after_all i m [] = m
  after_all i m (v ∷ vs) = after_all (i + 1) (after (is i) m v) vs

  -- each word may stand at its position
  abbrev pub InTurn : ℕ → ℕ → ℕ → List ℕ → Type 0
  InTurn n i m [] = Unit {0}
  InTurn n i m (v ∷ vs) = MayStand (is i) n m v × InTurn n (i + 1) (after (is i) m v) vs

  pub all_met_turn : (n i m : ℕ) (vs : List ℕ) → InTurn n i m vs → all_met (references is i vs) (upto m) ≡ upto (after_all i m vs)
  all_met_turn n i m [] a = refl
  all_met_turn n i m (v ∷ vs) a = by (is i) a.0 (all_met_turn n (i + 1) (after (is i) m v) vs a.1)
    where
      others : List ℕ
      others = references is (i + 1) vs

      by : (t : Bool) → MayStand t n m v → all_met others (upto (after t m v)) ≡ upto (after_all (i + 1) (after t m v) vs) →
          all_met (cond t (v ∷ others) others) (upto m) ≡ upto (after_all (i + 1) (after t m v) vs)
      by true b ih = ap (all_met others) (met-upto v m (omega (arith, b.1))) ∙ ih
      by false b ih = ih

  pub after_least : (i m : ℕ) (vs : List ℕ) → m ≤ after_all i m vs
  after_least i m [] = omega arith
  after_least i m (v ∷ vs) = by (is i) (after_least (i + 1) (after (is i) m v) vs)
    where
      by : (t : Bool) → after t m v ≤ after_all (i + 1) (after t m v) vs → m ≤ after_all (i + 1) (after t m v) vs
      by true ih = omega arith
      by false ih = ih

  pub after_most : (n i m : ℕ) (vs : List ℕ) → m ≤ n → InTurn n i m vs → after_all i m vs ≤ n
  after_most n i m [] h a = h
  after_most n i m (v ∷ vs) h a = after_most n (i + 1) (after (is i) m v) vs (by (is i) a.0) a.1
    where
      by : (t : Bool) → MayStand t n m v → after t m v ≤ n
      by true b = omega (arith, b.0)
      by false b = h

  -- what stands at a place of such words
  pub turn_at : (n i m : ℕ) (vs : List ℕ) → InTurn n i m vs → (k : ℕ) → k < length vs → Stands (is (i + k)) n (get_or vs k 0)
  turn_at n i m [] a k l = absurd (omega arith)
  turn_at n i m (v ∷ vs) a zero l = let e : i ≡ i + 0 = omega arith in subst (λ j. Stands (is j) n v) e (by (is i) a.0)
    where
      by : (t : Bool) → MayStand t n m v → Stands t n v
      by true b = b.0
      by false b = b
  turn_at n i m (v ∷ vs) a (suc k) l =
      let e : i + 1 + k ≡ i + suc k = omega arith in
      subst (λ j. Stands (is j) n (get_or vs k 0)) e (turn_at n (i + 1) (after (is i) m v) vs a.1 k (omega arith))

  -- no reference is above n
  pub turn_most : (n i m : ℕ) (vs : List ℕ) → InTurn n i m vs → Each (λ v. v ≤ n) (references is i vs)
  turn_most n i m [] a = tt
  turn_most n i m (v ∷ vs) a = by (is i) a.0 (turn_most n (i + 1) (after (is i) m v) vs a.1)
    where
      others : List ℕ
      others = references is (i + 1) vs

      by : (t : Bool) → MayStand t n m v → Each (λ v. v ≤ n) others → Each (λ v. v ≤ n) (cond t (v ∷ others) others)
      by true b ih = (b.0, ih)
      by false b ih = ih
