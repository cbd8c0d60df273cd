-- A set with one more member below a bound: the new one is a member, the others are members as before.
use Rattle.std.proofs.Common.{◌≡◌, ℕ, ◌<◌, Bool, true, cond, eqb, ◌⊎◌, ap, arith}
use Rattle.std.proofs.lemmas.Bool.Decides.{nat_tests}
use Rattle.std.proofs.lemmas.Bool.{lt-ltb}
use Rattle.bitset.specs.Set.{joined}

module _ (n : ℕ) (f : ℕ → Bool) (p : ℕ) where
  pub joined-put : p < n → ◌≡◌ {A = ℕ → Bool} (joined n f p) (λ k. cond (eqb k p) true (f k))
  unfolding joined
  joined-put l = ap (λ b k. cond (eqb k p) b (f k)) (lt-ltb p n l)

  pub joined_has : p < n → joined n f p p ≡ true
  unfolding joined
  joined_has l = grind (arith, nat_tests)

  pub joined_keeps : (k : ℕ) → p < n → f k ≡ true → joined n f p k ≡ true
  unfolding joined
  joined_keeps k l e = grind (arith, nat_tests)

  pub joined_is : (k : ℕ) → joined n f p k ≡ true → (k ≡ p) ⊎ (f k ≡ true)
  unfolding joined
  joined_is k e = grind (arith, nat_tests)

  pub joined-other : (k : ℕ) → (k ≡ p → ⊥) → joined n f p k ≡ f k
  unfolding joined
  joined-other k d = grind (arith, nat_tests)
