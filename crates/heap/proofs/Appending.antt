-- Objects still tile the used words of each region when one is added at the end of the used words of a region: it starts
-- where the last one ended. Elsewhere nothing changes.
use Rattle.std.proofs.Common.{◌≡◌, ℕ, ◌+◌, ◌<◌, ◌≤◌, Bool, true, false, cond, eqb, ◌⊎◌, ap, inl, inr, arith}
use Rattle.std.proofs.lemmas.Bool.Decides.{nat_tests}
use Rattle.std.proofs.lemmas.Bool.{cases_eq}
use Rattle.heap.specs.Tiles.{Tiles}

-- a region in which nothing starts has no used words
pub tiles_none : {starts : ℕ → Bool} {size : ℕ → ℕ} {base fill : ℕ} → fill ≡ 0 → ((k : ℕ) → starts k ≡ false) → Tiles starts size base fill
tiles_none {starts} e never =
    record {
      first = λ l. absurd (omega arith);
      some = λ p y a b. absurd (neither p y);
      ends = λ p y a b. absurd (neither p y);
      next = λ p y a b. absurd (neither p y);
      gap = λ p k y a b c d. never k;
      past = λ k a b. never k;
    }
  where
    neither : (p : ℕ) → starts p ≡ true → ⊥
    neither p y = let n = never p in grind arith

-- other sizes that are the same at the objects
pub tiles_resize : {starts : ℕ → Bool} {size other : ℕ → ℕ} {base fill : ℕ} → Tiles starts size base fill → ((p : ℕ) → starts p ≡ true → other p ≡ size p) → Tiles starts other base fill
tiles_resize t e =
    record {
      first = t.first;
      some = λ p y a b. rw (e p y) (t.some p y a b);
      ends = λ p y a b. rw (e p y) (t.ends p y a b);
      next = λ p y a b. rw (e p y) (t.next p y a b);
      gap = λ p k y a b c d. t.gap p k y a b c (rw (e p y) at d);
      past = t.past;
    }

-- one more object of n words, at the end
pub tiles_append : {starts : ℕ → Bool} {size : ℕ → ℕ} {base fill : ℕ} → Tiles starts size base fill → (n q : ℕ) → q ≡ base + fill
    → fill + n ≤ 1024 → 1 ≤ n → size q ≡ n → Tiles (λ k. cond (eqb k q) true (starts k)) size base (fill + n)
tiles_append {starts} {size} {base} {fill} t n q at room pos e =
    record {
      first = λ l. elim (cases_eq base q) [ inl z ↦ grind (arith, nat_tests) | inr z ↦ let y = t.first (omega arith) in grind (arith, nat_tests) ];
      some = λ p y a b. elim (cases_eq p q) [ inl z ↦ let s : size p ≡ size q = ap size z in omega arith | inr z ↦ t.some p (old p z y) a b ];
      ends = λ p y a b. elim (cases_eq p q) [
        | inl z ↦ let s : size p ≡ size q = ap size z in omega arith
        | inr z ↦ omega (arith, t.ends p (old p z y) a b)
      ];
      next = λ p y a b. elim (cases_eq p q) [
        | inl z ↦ let s : size p ≡ size q = ap size z in inl (omega arith)
        | inr z ↦ inr (elim (t.next p (old p z y) a b) [
          | inl x ↦ let d : p + size p ≡ q = omega arith in grind (arith, nat_tests)
          | inr x ↦ grind (arith, nat_tests)
        ])
      ];
      gap = λ p k y a b c d. elim (cases_eq p q) [
        | inl z ↦ let s : size p ≡ size q = ap size z in let w = t.past k (omega arith) (omega arith) in grind (arith, nat_tests)
        | inr z ↦
            let w = t.gap p k (old p z y) a b c d in
            let u = t.ends p (old p z y) a b in
            let ne : k ≡ q → ⊥ = λ x. omega arith in
            grind (arith, nat_tests)
      ];
      past = λ k a b. let w = t.past k (omega arith) b in let ne : k ≡ q → ⊥ = λ x. omega arith in grind (arith, nat_tests);
    }
  where
    old : (p : ℕ) → (p ≡ q → ⊥) → cond (eqb p q) true (starts p) ≡ true → starts p ≡ true
    old p ne y = grind (arith, nat_tests)

-- one more object elsewhere
pub tiles_elsewhere : {starts : ℕ → Bool} {size : ℕ → ℕ} {base fill : ℕ} → Tiles starts size base fill → fill ≤ 1024 → (q : ℕ)
    → (q < base) ⊎ (base + 1024 ≤ q) → Tiles (λ k. cond (eqb k q) true (starts k)) size base fill
tiles_elsewhere {starts} {size} {base} {fill} t room q out =
    record {
      first = λ l. let y = t.first l in grind (arith, nat_tests);
      some = λ p y a b. t.some p (old p (omega arith) y) a b;
      ends = λ p y a b. t.ends p (old p (omega arith) y) a b;
      next = λ p y a b. elim (t.next p (old p (omega arith) y) a b) [ inl x ↦ inl x | inr x ↦ inr (grind (arith, nat_tests)) ];
      gap = λ p k y a b c d.
          let w = t.gap p k (old p (omega arith) y) a b c d in
          let u = t.ends p (old p (omega arith) y) a b in
          let ne : k ≡ q → ⊥ = λ x. omega arith in
          grind (arith, nat_tests);
      past = λ k a b. let w = t.past k a b in let ne : k ≡ q → ⊥ = λ x. omega arith in grind (arith, nat_tests);
    }
  where
    old : (p : ℕ) → (p ≡ q → ⊥) → cond (eqb p q) true (starts p) ≡ true → starts p ≡ true
    old p ne y = grind (arith, nat_tests)
