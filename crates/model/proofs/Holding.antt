-- What a root holds, and what a reference of a reached object holds, is the same in a heap and in the model it is tied to. So
-- a root may take such a reference over, and the two stay tied.
use Rattle.std.proofs.Common.{◌≡◌, ℕ, zero, suc, true, cond, eqb, sym, refl, ap, ◌∙◌, subst, inl, inr, arith}
use Rattle.layout.specs.Shape.{Shape}
use Rattle.std.proofs.lemmas.Bool.Decides.{nat_tests}
use Rattle.std.proofs.lemmas.Bool.{cases_eq}
use Rattle.model.specs.Graph.{Graph, Reach, by_root, by_field}
use Rattle.model.specs.Tied.{Tied}
use Rattle.model.proofs.Changes.{hold, Matched, nil, object}

module _ {S : Shape} {h m : Graph} {ν : ℕ → ℕ} (t : Tied S h m ν) where
  pub root_matched : (k : ℕ) → Matched S h m ν (h.root k) (m.root k)
  root_matched k = go (h.root k) refl
    where
      go : (v : ℕ) → h.root k ≡ v → Matched S h m ν v (m.root k)
      go zero e = rw (t.root_nil k e) nil
      go (suc q) e = rw (t.root_same k q e) (object q (t.root_there k q e) (by_root k (t.root_same k q e)))

  -- a nil of the heap is a nil of the model here: what the model names is reached, so it would be in the heap
  pub field_matched : (p i : ℕ) → h.node p ≡ true → Reach S m (ν p) → S.reference (h.head p) i ≡ true → Matched S h m ν (h.field p i) (m.field (ν p) i)
  field_matched p i n r f = go (h.field p i) refl (m.field (ν p) i) refl
    where
      g : S.reference (m.head (ν p)) i ≡ true
      g = rw (t.heads p n) at f

      go : (v : ℕ) → h.field p i ≡ v → (u : ℕ) → m.field (ν p) i ≡ u → Matched S h m ν v u
      go zero e zero d = nil
      go zero e (suc o) d = absurd (let w = t.found o (by_field i r g d) in t.lost p i w.0 n f e w.1 (d ∙ ap suc (sym w.2)))
      go (suc q) e u d =
          subst (Matched S h m ν (suc q)) (sym (t.same p i q n f e) ∙ d)
          (object q (t.there p i q n f e) (by_field i r g (t.same p i q n f e)))

  pub tied_hold : (k : ℕ) {v u : ℕ} → Matched S h m ν v u → Tied S (hold h k v) (hold m k u) ν
  tied_hold k {v} {u} s = record {
    numbered = t.numbered;
    distinct = t.distinct;
    heads = t.heads;
    plains = t.plains;
    there = t.there;
    same = t.same;
    lost = t.lost;
    root_nil = λ j e. nils s j e;
    root_there = λ j q e. (names s j q e).0;
    root_same = λ j q e. (names s j q e).1;
    found = λ n r. t.found n (less s n r);
  }
    where
      nils : {v u : ℕ} → Matched S h m ν v u → (j : ℕ) → cond (eqb j k) v (h.root j) ≡ 0 → cond (eqb j k) u (m.root j) ≡ 0
      nils nil j e = grind (arith, nat_tests, t.root_nil j)
      nils (object q n r) j e = grind (arith, nat_tests, t.root_nil j)

      names : {v u : ℕ} → Matched S h m ν v u → (j q : ℕ) → cond (eqb j k) v (h.root j) ≡ suc q → (h.node q ≡ true) × (cond (eqb j k) u (m.root j) ≡ suc (ν q))
      names nil j q e = grind (arith, nat_tests, t.root_there j q, t.root_same j q)
      names (object o n r) j q e = elim (cases_eq j k) [
        | inl a ↦ (let b : o ≡ q = grind (arith, nat_tests) in let c : ν o ≡ ν q = ap ν b in (rw b at n, grind (arith, nat_tests)))
        | inr a ↦ grind (arith, nat_tests, t.root_there j q, t.root_same j q)
      ]

      less : {v u : ℕ} → Matched S h m ν v u → (n : ℕ) → Reach S (hold m k u) n → Reach S m n
      less s n (by_field {o} i x f e) = by_field i (less s o x) f e
      less nil n (by_root j e) = by_root j (grind (arith, nat_tests))
      less (object q c r) n (by_root j e) = elim (cases_eq j k) [ inl a ↦ subst (Reach S m) (grind (arith, nat_tests)) r | inr a ↦ by_root j (grind (arith, nat_tests)) ]
