-- The roots that are saved are those up to the last that is not nil: past them is nil, the last is not nil, and these two facts
-- tell how many they are. By induction on how many roots there are.
use Rattle.std.proofs.Common.{◌≡◌, ℕ, zero, suc, ◌<◌, ◌≤◌, refl, inl, inr, ap, ◌∙◌, sym, arith}
use Rattle.std.proofs.lemmas.Bool.{cases_eq, cond-true, cond-false, eq-eqb, ne_eqb}
use Rattle.std.proofs.lemmas.Bool.Decides.{nat_tests}
use Rattle.model.specs.Graph.{Graph}
use Rattle.canonical.specs.Saving.{used, root_count}

used_most : (root : ℕ → ℕ) (n : ℕ) → used root n ≤ n
used_most root zero = omega arith
used_most root (suc n) = let ih : used root n ≤ n = used_most root n in grind (arith, nat_tests)

-- the roots that follow are nil
used_past : (root : ℕ → ℕ) (n k : ℕ) → used root n ≤ k → k < n → root k ≡ 0
used_past root zero k l h = absurd (omega arith)
used_past root (suc n) k l h = elim (cases_eq (root n) 0) [
  | inr d ↦ (let e : used root (suc n) ≡ suc n = cond-false _ _ _ (ne_eqb (root n) 0 d) in absurd (omega arith))
  | inl z ↦
      (let e : used root (suc n) ≡ used root n = cond-true _ _ _ (eq-eqb (root n) 0 z) in
      elim (cases_eq k n) [ inl s ↦ ap root s ∙ z | inr s ↦ used_past root n k (omega arith) (omega arith) ])
]

-- the last is not nil
used_last : (root : ℕ → ℕ) (n k : ℕ) → used root n ≡ suc k → root k ≡ 0 → ⊥
used_last root zero k e z = omega arith
used_last root (suc n) k e z = elim (cases_eq (root n) 0) [
  | inl o ↦ used_last root n k (sym (cond-true _ _ _ (eq-eqb (root n) 0 o)) ∙ e) z
  | inr d ↦ (let s : suc n ≡ suc k = sym (cond-false _ _ _ (ne_eqb (root n) 0 d)) ∙ e in let t : n ≡ k = omega arith in d (ap root t ∙ z))
]

-- that says how many they are
used_is : (root : ℕ → ℕ) (n l : ℕ) → l ≤ n → ((k : ℕ) → l ≤ k → root k ≡ 0) → ((k : ℕ) → l ≡ suc k → root k ≡ 0 → ⊥) → used root n ≡ l
used_is root zero l h past last = omega arith
used_is root (suc n) l h past last = elim (cases_eq l (suc n)) [
  | inl e ↦ cond-false _ _ _ (ne_eqb (root n) 0 (last n e)) ∙ sym e
  | inr d ↦ cond-true _ _ _ (eq-eqb (root n) 0 (past n (omega arith))) ∙ used_is root n l (omega arith) past last
]

-- two kinds of roots that are nil at the same numbers
used_same : (root other : ℕ → ℕ) → ((k : ℕ) → root k ≡ 0 → other k ≡ 0) → ((k : ℕ) → other k ≡ 0 → root k ≡ 0) → (n : ℕ) → used root n ≡ used other n
used_same root other to from zero = refl
used_same root other to from (suc n) = elim (cases_eq (root n) 0) [
  | inl z ↦ cond-true _ _ _ (eq-eqb (root n) 0 z) ∙ used_same root other to from n ∙ sym (cond-true _ _ _ (eq-eqb (other n) 0 (to n z)))
  | inr d ↦ cond-false _ _ _ (ne_eqb (root n) 0 d) ∙ sym (cond-false _ _ _ (ne_eqb (other n) 0 (λ z. d (from n z))))
]

module _ (g : Graph) where
  pub count_most : root_count g ≤ 64
  unfolding root_count
  count_most = used_most g.root 64

  pub count_past : (k : ℕ) → root_count g ≤ k → k < 64 → g.root k ≡ 0
  unfolding root_count
  count_past k l h = used_past g.root 64 k l h

  pub count_last : (k : ℕ) → root_count g ≡ suc k → g.root k ≡ 0 → ⊥
  unfolding root_count
  count_last k e = used_last g.root 64 k e

  pub count_is : (l : ℕ) → l ≤ 64 → ((k : ℕ) → l ≤ k → g.root k ≡ 0) → ((k : ℕ) → l ≡ suc k → g.root k ≡ 0 → ⊥) → root_count g ≡ l
  unfolding root_count
  count_is l h past last = used_is g.root 64 l h past last

  pub count_same : (h : Graph) → ((k : ℕ) → g.root k ≡ 0 → h.root k ≡ 0) → ((k : ℕ) → h.root k ≡ 0 → g.root k ≡ 0) → root_count g ≡ root_count h
  unfolding root_count
  count_same h to from = used_same g.root h.root to from 64
