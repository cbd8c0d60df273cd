-- The tie sees of a heap only which objects there are, their words and the roots. So a heap that looks the same is tied to the
-- same model, and a model that looks the same to the same heap.
use Rattle.std.proofs.Common.{◌≡◌, ℕ, ◌<◌, ◌≤◌, true, sym, ◌∙◌, subst, arith}
use Rattle.layout.specs.Shape.{Shape, Lawful, plain}
use Rattle.std.proofs.lemmas.Bool.Decides.{nat_tests}
use Rattle.model.specs.Graph.{Graph, Reach, by_root, by_field}
use Rattle.model.specs.Tied.{Tied}

-- the same objects with the same words, and the same roots
pub record Looks (S : Shape) (h k : Graph) : Type 0 where
  pub node : (p : ℕ) → k.node p ≡ h.node p
  pub head : (p : ℕ) → h.node p ≡ true → k.head p ≡ h.head p
  pub field : (p i : ℕ) → h.node p ≡ true → 1 ≤ i → i < S.size (h.head p) → k.field p i ≡ h.field p i
  pub root : (j : ℕ) → k.root j ≡ h.root j

-- the same everywhere, but at position 0, which is the header's
pub record Equal (m k : Graph) : Type 0 where
  pub node : (o : ℕ) → k.node o ≡ m.node o
  pub head : (o : ℕ) → k.head o ≡ m.head o
  pub field : (o i : ℕ) → 1 ≤ i → k.field o i ≡ m.field o i
  pub root : (j : ℕ) → k.root j ≡ m.root j

-- a plain position lies after the header and within the object
pub plain-inside : (S : Shape) (h i : ℕ) → plain S h i ≡ true → (1 ≤ i) × (i < S.size h)
plain-inside S h i e = (grind (arith, nat_tests), grind (arith, nat_tests))

module _ {S : Shape} (law : Lawful S) {h m : Graph} {ν : ℕ → ℕ} (t : Tied S h m ν) where
  pub tied_looks : {k : Graph} → Looks S h k → Tied S k m ν
  tied_looks {k} l = record {
    numbered = λ p n. t.numbered p (nd p n);
    distinct = λ p q n o e. t.distinct p q (nd p n) (nd q o) e;
    root_nil = λ j e. t.root_nil j (sym (l.root j) ∙ e);
    root_there = λ j q e. l.node q ∙ t.root_there j q (sym (l.root j) ∙ e);
    root_same = λ j q e. t.root_same j q (sym (l.root j) ∙ e);
    heads = λ p n. l.head p (nd p n) ∙ t.heads p (nd p n);
    plains = λ p i n f. (let f' = old_plain p i n f in let b = plain-inside S (h.head p) i f' in l.field p i (nd p n) b.0 b.1 ∙ t.plains p i (nd p n) f');
    there = λ p i q n f e. l.node q ∙ t.there p i q (nd p n) (old_ref p i n f) (old_field p i n f ∙ e);
    same = λ p i q n f e. t.same p i q (nd p n) (old_ref p i n f) (old_field p i n f ∙ e);
    lost = λ p i q n f e o. t.lost p i q (nd p n) (old_ref p i n f) (old_field p i n f ∙ e) (nd q o);
    found = λ n r. (let w = t.found n r in (w.0, l.node w.0 ∙ w.1, w.2));
  }
    where
      nd : (p : ℕ) → k.node p ≡ true → h.node p ≡ true
      nd p n = sym (l.node p) ∙ n

      old_ref : (p i : ℕ) → k.node p ≡ true → S.reference (k.head p) i ≡ true → S.reference (h.head p) i ≡ true
      old_ref p i n f = rw (l.head p (nd p n)) at f

      old_plain : (p i : ℕ) → k.node p ≡ true → plain S (k.head p) i ≡ true → plain S (h.head p) i ≡ true
      old_plain p i n f = subst (λ x. plain S x i ≡ true) (l.head p (nd p n)) f

      old_field : (p i : ℕ) → k.node p ≡ true → S.reference (k.head p) i ≡ true → h.field p i ≡ k.field p i
      old_field p i n f = let b = law.inside (h.head p) i (old_ref p i n f) in sym (l.field p i (nd p n) b.0 b.1)

  pub tied_equal : {k : Graph} → Equal m k → Tied S h k ν
  tied_equal {k} l = record {
    numbered = λ p n. l.node (ν p) ∙ t.numbered p n;
    distinct = t.distinct;
    root_nil = λ j e. l.root j ∙ t.root_nil j e;
    root_there = t.root_there;
    root_same = λ j q e. l.root j ∙ t.root_same j q e;
    heads = λ p n. t.heads p n ∙ sym (l.head (ν p));
    plains = λ p i n f. t.plains p i n f ∙ sym (l.field (ν p) i (plain-inside S (h.head p) i f).0);
    there = t.there;
    same = λ p i q n f e. l.field (ν p) i (law.inside (h.head p) i f).0 ∙ t.same p i q n f e;
    lost = λ p i q n f e o z. t.lost p i q n f e o (sym (l.field (ν p) i (law.inside (h.head p) i f).0) ∙ z);
    found = λ n r. t.found n (back n r);
  }
    where
      back : (n : ℕ) → Reach S k n → Reach S m n
      back n (by_root j e) = by_root j (sym (l.root j) ∙ e)
      back n (by_field {o = x} i r g e) =
          let g' : S.reference (m.head x) i ≡ true = rw (l.head x) at g in
          by_field i (back x r) g' (sym (l.field x i (law.inside (m.head x) i g').0) ∙ e)
