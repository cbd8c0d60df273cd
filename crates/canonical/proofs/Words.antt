-- The words of an object by their positions, and the references among them: what holds of each word at a reference position holds
-- of each reference, and the other way round. All by induction on how many words there are.
use Rattle.std.proofs.Common.{◌≡◌, ℕ, zero, suc, ◌+◌, ◌-◌, ◌<◌, ◌≤◌, Bool, true, false, cond, List, [], ◌∷◌, length, map, get_or, sym, refl, ap, ap₂, ◌∙◌, subst, inl, inr, arith}
use Rattle.std.specs.List.{AllByRecursion as Each, range_with_len}
use Rattle.std.proofs.lemmas.Bool.{cases_Bool, cases_eq, cond-true, cond-false, le-leb, lt-ltb, leb-true, ltb-true, and_from, and_parts, not_from_false, not-true}
use Rattle.std.proofs.lemmas.List.FromFn.{get_or-map-range_with_len}
use Rattle.layout.specs.Shape.{Shape, plain}
use Rattle.canonical.specs.Saving.{references, renumbered}
use Rattle.canonical.proofs.Pairs.{Pairs}
use Rattle.canonical.proofs.Pairs.Pairs.{none, pair}

-- a position after the header that holds no reference is plain
pub plain_from : (S : Shape) (h i : ℕ) → 1 ≤ i → i < 1 + (S.size h - 1) → S.reference h i ≡ false → plain S h i ≡ true
plain_from S h i l b e = and_from _ _ (le-leb 1 i l) (and_from _ _ (lt-ltb i (S.size h) (omega arith)) (not_from_false (S.reference h i) e))

-- what a plain position is
pub plain_parts : (S : Shape) (h i : ℕ) → plain S h i ≡ true → (1 ≤ i) × (i < S.size h) × (S.reference h i ≡ false)
plain_parts S h i e =
    let p = and_parts _ _ e in
    let q = and_parts _ _ p.1 in
    (leb-true 1 i p.0, ltb-true i (S.size h) q.0, not-true _ q.1)

module _ (P : ℕ → Type 0) where
  -- what holds of each value of a function holds of a list of its values
  pub each_value : (f : ℕ → ℕ) → ((k : ℕ) → P (f k)) → (i n : ℕ) → Each P (map f (range_with_len i n))
  each_value f h i zero = tt
  each_value f h i (suc n) = (h i, each_value f h (i + 1) n)

  -- what holds of each word at a reference position holds of the list of references
  pub each_reference : (is : ℕ → Bool) (word : ℕ → ℕ) → ((k : ℕ) → is k ≡ true → P (word k)) → (i n : ℕ) →
      Each P (references is i (map word (range_with_len i n)))
  each_reference is word h i zero = tt
  each_reference is word h i (suc n) = elim (cases_Bool (is i)) [
    | inl e ↦ subst (Each P) (sym (cond-true _ _ _ e)) (h i e, each_reference is word h (i + 1) n)
    | inr e ↦ subst (Each P) (sym (cond-false _ _ _ e)) (each_reference is word h (i + 1) n)
  ]

  -- the word at a reference position stands in the list of references
  pub reference_at : (is : ℕ → Bool) (word : ℕ → ℕ) (i n k : ℕ) → Each P (references is i (map word (range_with_len i n))) →
      is k ≡ true → i ≤ k → k < i + n → P (word k)
  reference_at is word i zero k a e l h = absurd (omega arith)
  reference_at is word i (suc n) k a e l h = elim (cases_eq k i) [
    | inl s ↦ (let t : is i ≡ true = ap is (sym s) ∙ e in subst (λ j. P (word j)) (sym s) (subst (Each P) (cond-true _ _ _ t) a).0)
    | inr d ↦ reference_at is word (i + 1) n k (elim (cases_Bool (is i)) [
      | inl t ↦ (subst (Each P) (cond-true _ _ _ t) a).1
      | inr t ↦ subst (Each P) (cond-false _ _ _ t) a
    ]) e (omega arith) (omega arith)
  ]

module _ {R : ℕ → ℕ → Type 0} where
  -- values of two functions that match make lists that match
  pub pairs_values : (p q : ℕ → ℕ) → ((k : ℕ) → R (p k) (q k)) → (i n : ℕ) → Pairs R (map p (range_with_len i n)) (map q (range_with_len i n))
  pairs_values p q h i zero = none
  pairs_values p q h i (suc n) = pair (h i) (pairs_values p q h (i + 1) n)

  -- and so do references that match
  pub pairs_references : (is : ℕ → Bool) (p q : ℕ → ℕ) → ((k : ℕ) → is k ≡ true → R (p k) (q k)) → (i n : ℕ) →
      Pairs R (references is i (map p (range_with_len i n))) (references is i (map q (range_with_len i n)))
  pairs_references is p q h i zero = none
  pairs_references is p q h i (suc n) = by (is i) (h i) (pairs_references is p q h (i + 1) n)
    where
      by : (t : Bool) → (t ≡ true → R (p i) (q i)) → {xs ys : List ℕ} → Pairs R xs ys → Pairs R (cond t (p i ∷ xs) xs) (cond t (q i ∷ ys) ys)
      by true r ps = pair (r refl) ps
      by false r ps = ps

-- words are renumbered alike where their references have the same numbers and the others are the same
pub renumbered_same : (is : ℕ → Bool) (f e p q : ℕ → ℕ) (i n : ℕ) → ((k : ℕ) → is k ≡ true → f (p k) ≡ e (q k)) →
    ((k : ℕ) → i ≤ k → k < i + n → is k ≡ false → p k ≡ q k) →
    renumbered is f i (map p (range_with_len i n)) ≡ renumbered is e i (map q (range_with_len i n))
renumbered_same is f e p q i zero h u = refl
renumbered_same is f e p q i (suc n) h u =
    ap₂ (λ x xs. x ∷ xs) (here (is i) (h i) (u i (omega arith) (omega arith)))
    (renumbered_same is f e p q (i + 1) n h (λ k l b z. u k (omega arith) (omega arith) z))
  where
    here : (t : Bool) → (t ≡ true → f (p i) ≡ e (q i)) → (t ≡ false → p i ≡ q i) → cond t (f (p i)) (p i) ≡ cond t (e (q i)) (q i)
    here true a b = a refl
    here false a b = b refl

-- the word at a place of an object's words
pub word_at_place : (word : ℕ → ℕ) (i n k : ℕ) → k < n → get_or (map word (range_with_len i n)) k 0 ≡ word (i + k)
word_at_place word i n k l = get_or-map-range_with_len word i n k (i + k) 0 l refl

pub renumbered_length : (is : ℕ → Bool) (f : ℕ → ℕ) (i : ℕ) (vs : List ℕ) → length (renumbered is f i vs) ≡ length vs
renumbered_length is f i [] = refl
renumbered_length is f i (v ∷ vs) = ap suc (renumbered_length is f (i + 1) vs)

-- where a reference stands, its number stands after renumbering, and where a plain word stands, the word
pub renumbered_at : (is : ℕ → Bool) (f : ℕ → ℕ) (i : ℕ) (vs : List ℕ) (k : ℕ) → k < length vs →
    get_or (renumbered is f i vs) k 0 ≡ cond (is (i + k)) (f (get_or vs k 0)) (get_or vs k 0)
renumbered_at is f i [] k l = absurd (omega arith)
renumbered_at is f i (v ∷ vs) zero l = let e : i ≡ i + 0 = omega arith in ap (λ j. cond (is j) (f v) v) e
renumbered_at is f i (v ∷ vs) (suc k) l =
    let e : i + 1 + k ≡ i + suc k = omega arith in
    renumbered_at is f (i + 1) vs k (omega arith) ∙ ap (λ j. cond (is j) (f (get_or vs k 0)) (get_or vs k 0)) e

-- references that keep their values leave the words as they are
pub renumbered_kept : (is : ℕ → Bool) (f : ℕ → ℕ) (i : ℕ) (vs : List ℕ) → Each (λ v. f v ≡ v) (references is i vs) → renumbered is f i vs ≡ vs
renumbered_kept is f i [] a = refl
renumbered_kept is f i (v ∷ vs) a = by (is i) (renumbered_kept is f (i + 1) vs) a
  where
    others : List ℕ
    others = references is (i + 1) vs

    by : (t : Bool) → (Each (λ v. f v ≡ v) others → renumbered is f (i + 1) vs ≡ vs) → Each (λ v. f v ≡ v) (cond t (v ∷ others) others) →
        cond t (f v) v ∷ renumbered is f (i + 1) vs ≡ v ∷ vs
    by true ih b = ap₂ (λ x xs. x ∷ xs) b.0 (ih b.1)
    by false ih b = ap (λ xs. v ∷ xs) (ih b)

-- where every position holds a reference
abbrev pub always : ℕ → Bool
always i = true

pub always_references : (i : ℕ) (vs : List ℕ) → references always i vs ≡ vs
always_references i [] = refl
always_references i (v ∷ vs) = ap (λ xs. v ∷ xs) (always_references (i + 1) vs)

pub always_renumbered : (f : ℕ → ℕ) (i : ℕ) (vs : List ℕ) → renumbered always f i vs ≡ map f vs
always_renumbered f i [] = refl
always_renumbered f i (v ∷ vs) = ap (λ xs. f v ∷ xs) (always_renumbered f (i + 1) vs)
