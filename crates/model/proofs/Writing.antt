-- A reference, or a plain word, that is written into an object of the heap and into the object of its number leaves the two
-- tied: both see it at the same object and position, and nowhere else.
use Rattle.std.proofs.Common.{◌≡◌, ℕ, suc, true, cond, ◌&&◌, eqb, ◌⊎◌, sym, ap, ◌∙◌, subst, inl, inr, arith}
use Rattle.layout.specs.Shape.{Shape, plain}
use Rattle.std.proofs.lemmas.Bool.Decides.{nat_tests}
use Rattle.std.proofs.lemmas.Bool.{cases_Bool, cases_eq}
use Rattle.model.specs.Graph.{Graph, Reach, by_root, by_field}
use Rattle.model.specs.Tied.{Tied}
use Rattle.model.proofs.Changes.{write, Matched, nil, object}

-- no position holds both a plain word and a reference
pub not_both : (S : Shape) (h i : ℕ) → plain S h i ≡ true → S.reference h i ≡ true → ⊥
not_both S h i a b = grind arith

module _ {S : Shape} {h m : Graph} {ν : ℕ → ℕ} (t : Tied S h m ν) (p i : ℕ) (n : h.node p ≡ true) where
  hit : (q j : ℕ) → ((q ≡ p) × (j ≡ i)) ⊎ ((q ≡ p → ⊥) ⊎ (j ≡ i → ⊥))
  hit q j = elim (cases_eq q p) [ inl a ↦ elim (cases_eq j i) [ inl b ↦ inl (a, b) | inr b ↦ inr (inr b) ] | inr a ↦ inr (inl a) ]

  on : (q j w x : ℕ) → q ≡ p → j ≡ i → cond (eqb q p && eqb j i) w x ≡ w
  on q j w x a b = grind (arith, nat_tests)

  off : (q j w x : ℕ) → (q ≡ p → ⊥) ⊎ (j ≡ i → ⊥) → cond (eqb q p && eqb j i) w x ≡ x
  off q j w x d = grind (arith, nat_tests)

  on_model : (q j w x : ℕ) → q ≡ p → j ≡ i → cond (eqb (ν q) (ν p) && eqb j i) w x ≡ w
  on_model q j w x a b = let e : ν q ≡ ν p = ap ν a in grind (arith, nat_tests)

  off_model : (q j w x : ℕ) → h.node q ≡ true → (q ≡ p → ⊥) ⊎ (j ≡ i → ⊥) → cond (eqb (ν q) (ν p) && eqb j i) w x ≡ x
  off_model q j w x nq d = let e : ν q ≡ ν p → q ≡ p = t.distinct q p nq n in grind (arith, nat_tests)

  pub tied_reference : S.reference (h.head p) i ≡ true → {v u : ℕ} → Matched S h m ν v u → Tied S (write h p i v) (write m (ν p) i u) ν
  tied_reference f {v} {u} s = record {
    numbered = t.numbered;
    distinct = t.distinct;
    heads = t.heads;
    root_nil = t.root_nil;
    root_there = t.root_there;
    root_same = t.root_same;
    plains = λ q j nq g. (let d = plain_off q j g in off q j v _ d ∙ t.plains q j nq g ∙ sym (off_model q j u _ nq d));
    there = λ q j r nq g e. (names s q j r nq g e).0;
    same = λ q j r nq g e. (names s q j r nq g e).1;
    lost = λ q j r nq g e nr. gone s q j r nq g e nr;
    found = λ o r. t.found o (less s o r);
  }
    where
      plain_off : (q j : ℕ) → plain S (h.head q) j ≡ true → (q ≡ p → ⊥) ⊎ (j ≡ i → ⊥)
      plain_off q j g = elim (hit q j) [
        | inl a ↦ absurd (not_both S (h.head q) j g (let z : S.reference (h.head q) j ≡ true = rw a.0 (rw a.1 f) in z))
        | inr a ↦ a
      ]

      names : {v u : ℕ} → Matched S h m ν v u → (q j r : ℕ) → h.node q ≡ true → S.reference (h.head q) j ≡ true → cond (eqb q p && eqb j i) v (h.field q j) ≡ suc r → (h.node r ≡ true) × (cond (eqb (ν q) (ν p) && eqb j i) u (m.field (ν q) j) ≡ suc (ν r))
      names {v} {u} s q j r nq g e = elim (hit q j) [
        | inl a ↦ at s (sym (on q j v (h.field q j) a.0 a.1) ∙ e) (on_model q j u (m.field (ν q) j) a.0 a.1)
        | inr a ↦ (let e' = sym (off q j v (h.field q j) a) ∙ e in (t.there q j r nq g e', off_model q j u (m.field (ν q) j) nq a ∙ t.same q j r nq g e'))
      ]
        where
          at : {v u x : ℕ} → Matched S h m ν v u → v ≡ suc r → x ≡ u → (h.node r ≡ true) × (x ≡ suc (ν r))
          at nil z y = absurd (omega arith)
          at (object o h₀ r₀) z y = let b : o ≡ r = omega arith in (rw b at h₀, y ∙ ap (λ k. suc (ν k)) b)

      gone : {v u : ℕ} → Matched S h m ν v u → (q j r : ℕ) → h.node q ≡ true → S.reference (h.head q) j ≡ true → cond (eqb q p && eqb j i) v (h.field q j) ≡ 0 → h.node r ≡ true → cond (eqb (ν q) (ν p) && eqb j i) u (m.field (ν q) j) ≡ suc (ν r) → ⊥
      gone {v} {u} s q j r nq g e nr z = elim (hit q j) [
        | inl a ↦ at s (sym (on q j v (h.field q j) a.0 a.1) ∙ e) (sym (on_model q j u (m.field (ν q) j) a.0 a.1) ∙ z)
        | inr a ↦ t.lost q j r nq g (sym (off q j v (h.field q j) a) ∙ e) nr (sym (off_model q j u (m.field (ν q) j) nq a) ∙ z)
      ]
        where
          at : {v u : ℕ} → Matched S h m ν v u → v ≡ 0 → u ≡ suc (ν r) → ⊥
          at nil x y = omega arith
          at (object o h₀ r₀) x y = omega arith

      less : {v u : ℕ} → Matched S h m ν v u → (o : ℕ) → Reach S (write m (ν p) i u) o → Reach S m o
      less s o (by_root k e) = by_root k e
      less {v} {u} s o (by_field {o = x} j r g e) = elim (cases_Bool (eqb x (ν p) && eqb j i)) [
        | inl a ↦ at s (sym (ap (λ b. cond b u (m.field x j)) a) ∙ e)
        | inr a ↦ by_field j (less s x r) g (sym (ap (λ b. cond b u (m.field x j)) a) ∙ e)
      ]
        where
          at : {v u : ℕ} → Matched S h m ν v u → u ≡ suc o → Reach S m o
          at nil y = absurd (omega arith)
          at (object q nq rq) y = subst (Reach S m) (omega arith) rq

  pub tied_plain : plain S (h.head p) i ≡ true → (w : ℕ) → Tied S (write h p i w) (write m (ν p) i w) ν
  tied_plain f w = record {
    numbered = t.numbered;
    distinct = t.distinct;
    heads = t.heads;
    root_nil = t.root_nil;
    root_there = t.root_there;
    root_same = t.root_same;
    plains = λ q j nq g. elim (hit q j) [
      | inl a ↦ on q j w _ a.0 a.1 ∙ sym (on_model q j w _ a.0 a.1)
      | inr a ↦ off q j w _ a ∙ t.plains q j nq g ∙ sym (off_model q j w _ nq a)
    ];
    there = λ q j r nq g e. t.there q j r nq g (sym (off q j w _ (elsewhere q j g)) ∙ e);
    same = λ q j r nq g e. off_model q j w _ nq (elsewhere q j g) ∙ t.same q j r nq g (sym (off q j w _ (elsewhere q j g)) ∙ e);
    lost = λ q j r nq g e nr z. t.lost q j r nq g (sym (off q j w _ (elsewhere q j g)) ∙ e) nr (sym (off_model q j w _ nq (elsewhere q j g)) ∙ z);
    found = λ o r. t.found o (less o r);
  }
    where
      elsewhere : (q j : ℕ) → S.reference (h.head q) j ≡ true → (q ≡ p → ⊥) ⊎ (j ≡ i → ⊥)
      elsewhere q j g = elim (hit q j) [
        | inl a ↦ absurd (not_both S (h.head p) i f (let z : S.reference (h.head p) i ≡ true = subst (λ x. S.reference (h.head x) i ≡ true) a.0 (subst (λ y. S.reference (h.head q) y ≡ true) a.1 g) in z))
        | inr a ↦ a
      ]

      model_elsewhere : (x j : ℕ) → S.reference (m.head x) j ≡ true → (x ≡ ν p → j ≡ i → ⊥)
      model_elsewhere x j g a b =
          let z : S.reference (m.head (ν p)) i ≡ true = subst (λ y. S.reference (m.head y) i ≡ true) a (subst (λ y. S.reference (m.head x) y ≡ true) b g) in
          not_both S (h.head p) i f (rw (t.heads p n) z)

      less : (o : ℕ) → Reach S (write m (ν p) i w) o → Reach S m o
      less o (by_root k e) = by_root k e
      less o (by_field {o = x} j r g e) = by_field j (less x r) g (sym (skipped x j (model_elsewhere x j g)) ∙ e)
        where
          skipped : (x j : ℕ) → (x ≡ ν p → j ≡ i → ⊥) → cond (eqb x (ν p) && eqb j i) w (m.field x j) ≡ m.field x j
          skipped x j d = grind (arith, nat_tests)
