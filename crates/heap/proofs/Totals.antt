-- Laws of sums over a range of numbers, by induction on how many numbers it has. A sum changes by as much as the one value
-- that changes in its range, and not at all if that lies elsewhere.
use Rattle.std.proofs.Common.{◌≡◌, ℕ, zero, suc, ◌+◌, ◌*◌, ◌<◌, ◌≤◌, Bool, true, false, cond, eqb, ◌⊎◌, refl, ap, ap₂, inl, inr, arith}
use Rattle.std.proofs.lemmas.Bool.Decides.{nat_tests}
use Rattle.std.proofs.lemmas.Bool.{cases_eq}
use Rattle.heap.specs.Tiles.{total, held_by}

pub total-none : (g : ℕ → ℕ) (a : ℕ) → total g a 0 ≡ 0
unfolding total
total-none g a = refl

pub total_more : (g : ℕ → ℕ) (a n : ℕ) → total g a (suc n) ≡ total g a n + g (a + n)
unfolding total
total_more g a n = refl

-- functions that agree on the range have the same sum
pub total_ext : (g h : ℕ → ℕ) (a n : ℕ) → ((k : ℕ) → a ≤ k → k < a + n → g k ≡ h k) → total g a n ≡ total h a n
unfolding total
total_ext g h a zero e = refl
total_ext g h a (suc n) e = ap₂ (λ x y. x + y) (total_ext g h a n (λ k l u. e k l (omega arith))) (e (a + n) (omega arith) (omega arith))

-- one value changes
pub total-put : (g : ℕ → ℕ) (i v a n : ℕ) → a ≤ i → i < a + n → total (λ k. cond (eqb k i) v (g k)) a n + g i ≡ total g a n + v
unfolding total
total-put g i v a zero h l = absurd (omega arith)
total-put g i v a (suc n) h l = elim (cases_eq (a + n) i) [
  | inl e ↦ let t = total_ext (λ k. cond (eqb k i) v (g k)) g a n (λ k x y. grind (arith, nat_tests)) in grind (arith, nat_tests)
  | inr e ↦ let t = total-put g i v a n h (omega arith) in grind (arith, nat_tests)
]

-- the sizes of members are all that counts
pub held_ext : (f : ℕ → Bool) (size other : ℕ → ℕ) (a n : ℕ) → ((k : ℕ) → f k ≡ true → size k ≡ other k)
    → total (held_by f size) a n ≡ total (held_by f other) a n
held_ext f size other a n e = total_ext (held_by f size) (held_by f other) a n (λ k l u. go (f k) (e k))
  where
    go : {x y : ℕ} (b : Bool) → (b ≡ true → x ≡ y) → cond b x 0 ≡ cond b y 0
    go true d = d refl
    go false d = refl

-- the same are members
pub held_same : (f g : ℕ → Bool) (size : ℕ → ℕ) (a n : ℕ) → ((k : ℕ) → f k ≡ g k) → total (held_by f size) a n ≡ total (held_by g size) a n
held_same f g size a n e = total_ext (held_by f size) (held_by g size) a n (λ k l u. ap (λ b. cond b (size k) 0) (e k))

-- members of at most 1,024 words
pub held-most : (f : ℕ → Bool) (size : ℕ → ℕ) (a n : ℕ) → ((k : ℕ) → f k ≡ true → size k ≤ 1024) → total (held_by f size) a n ≤ 1024 * n
unfolding total
held-most f size a zero e = omega arith
held-most f size a (suc n) e = omega (arith, held-most f size a n e, go (f (a + n)) (e (a + n)))
  where
    go : {x : ℕ} (b : Bool) → (b ≡ true → x ≤ 1024) → cond b x 0 ≤ 1024
    go true d = d refl
    go false d = omega arith

-- a new member in the range
pub held_one_more : (f : ℕ → Bool) (size : ℕ → ℕ) (p a n : ℕ) → f p ≡ false → a ≤ p → p < a + n
    → total (held_by (λ k. cond (eqb k p) true (f k)) size) a n ≡ total (held_by f size) a n + size p
held_one_more f size p a n z l u =
    let e : total (held_by (λ k. cond (eqb k p) true (f k)) size) a n ≡ total (λ k. cond (eqb k p) (size p) (held_by f size k)) a n =
    total_ext (held_by (λ k. cond (eqb k p) true (f k)) size) (λ k. cond (eqb k p) (size p) (held_by f size k)) a n (λ k x y. same k) in
    let v : held_by f size p ≡ 0 = ap (λ b. cond b (size p) 0) z in
    omega (arith, total-put (held_by f size) p (size p) a n l u)
  where
    same : (k : ℕ) → held_by (λ k. cond (eqb k p) true (f k)) size k ≡ cond (eqb k p) (size p) (held_by f size k)
    same k = grind (arith, nat_tests)

-- a new member elsewhere
pub held_elsewhere : (f : ℕ → Bool) (size : ℕ → ℕ) (p a n : ℕ) → (p < a) ⊎ (a + n ≤ p)
    → total (held_by (λ k. cond (eqb k p) true (f k)) size) a n ≡ total (held_by f size) a n
held_elsewhere f size p a n out = total_ext (held_by (λ k. cond (eqb k p) true (f k)) size) (held_by f size) a n (λ k l u. same k (omega arith))
  where
    same : (k : ℕ) → (k ≡ p → ⊥) → held_by (λ k. cond (eqb k p) true (f k)) size k ≡ held_by f size k
    same k ne = grind (arith, nat_tests)
