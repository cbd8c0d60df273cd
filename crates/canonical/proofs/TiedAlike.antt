-- A heap and the heap that never collects, tied: what the roots reach in the one, they reach in the other under its number. Where
-- the heap holds nil in an object that is reached, the other holds nil too: whatever it held would be reached, so it would be in
-- the heap, and then nothing of it was lost.
use Rattle.std.proofs.Common.{◌≡◌, ℕ, zero, suc, ◌<◌, ◌≤◌, Bool, true, ◌&&◌, eqb, ltb, length, sym, refl, ap, ◌∙◌, subst, arith}
use Rattle.std.proofs.lemmas.Bool.{and_from, and_parts, lt-ltb, ltb-true, eq-eqb, eqb-true}
use Rattle.layout.specs.Shape.{Shape, Lawful}
use Rattle.image.specs.Content.{Content}
use Rattle.model.specs.Graph.{Graph, Reach}
use Rattle.model.specs.Graph.Reach.{by_root, by_field}
use Rattle.model.specs.Edits.{graph_of}
use Rattle.model.specs.Tied.{Tied}
use Rattle.canonical.specs.Walk.{place_of}
use Rattle.canonical.specs.Saving.{order, Within}
use Rattle.canonical.specs.Alike.{Match, Matching}
use Rattle.canonical.specs.TiedAlike.{TiedAlike, TiedContent}
use Rattle.canonical.proofs.Reached.{in_good, reached_in}
use Rattle.canonical.proofs.OneContent.{one_content}

module _ {S : Shape} {h m : Graph} {ν : ℕ → ℕ} (t : Tied S h m ν) where
  -- what is reached in the heap is an object of it, and is reached in the other
  reached_both : (p : ℕ) → Reach S h p → (h.node p ≡ true) × Reach S m (ν p)
  reached_both p (by_root k e) = (t.root_there k p e, by_root k (t.root_same k p e))
  reached_both p (by_field {o = o} i r e f) =
      let b = reached_both o r in (
        t.there o i p b.0 e f,
        by_field i b.1 (subst (λ x. S.reference x i ≡ true) (t.heads o b.0) e) (t.same o i p b.0 e f),
      )

  -- a reference that is nil in the heap is nil in the other
  nil_both : (p i : ℕ) → Reach S h p → S.reference (h.head p) i ≡ true → h.field p i ≡ 0 → (v : ℕ) → m.field (ν p) i ≡ v → v ≡ 0
  nil_both p i r e z zero f = refl
  nil_both p i r e z (suc q) f =
      let b = reached_both p r in
      let there = t.found q (by_field i b.1 (subst (λ x. S.reference x i ≡ true) (t.heads p b.0) e) f) in
      absurd (t.lost p i there.0 b.0 e z there.1 (f ∙ ap suc (sym there.2)))

  -- references match by any relation that holds of each object that is reached and its number
  module _ (R : ℕ → ℕ → Type 0) (all : (p : ℕ) → Reach S h p → R p (ν p)) where
    roots_match : (k : ℕ) → Match R (h.root k) (m.root k)
    roots_match k = by (h.root k) refl
      where
        by : (v : ℕ) → h.root k ≡ v → Match R v (m.root k)
        by zero e = subst (Match R 0) (sym (t.root_nil k e)) tt
        by (suc p) e = subst (Match R (suc p)) (sym (t.root_same k p e)) (all p (by_root k e))

    fields_match : (p i : ℕ) → Reach S h p → S.reference (h.head p) i ≡ true → Match R (h.field p i) (m.field (ν p) i)
    fields_match p i r e = by (h.field p i) refl
      where
        by : (v : ℕ) → h.field p i ≡ v → Match R v (m.field (ν p) i)
        by zero z = subst (Match R 0) (sym (nil_both p i r e z (m.field (ν p) i) refl)) tt
        by (suc q) f = subst (Match R (suc q)) (sym (t.same p i q (reached_both p r).0 e f)) (all q (by_field i r e f))

module _ (S : Shape) (law : Lawful S) (h m : Graph) (ν : ℕ → ℕ) (n : ℕ) (w : Within S h n) (t : Tied S h m ν) where
  -- an object is related with its number, if the roots reach it
  abbrev related : ℕ → ℕ → Bool
  related p q = ltb (place_of (suc p) (order S h n)) (length (order S h n)) && eqb (ν p) q

  module _ (p q : ℕ) (r : related p q ≡ true) where
    from_related : Reach S h p × (ν p ≡ q)
    from_related = (
      (in_good S h n w (suc p) (ltb-true _ _ (and_parts _ _ r).0)).1,
      eqb-true (ν p) q (and_parts _ _ r).1,
    )

  to_related : (p : ℕ) → Reach S h p → related p (ν p) ≡ true
  to_related p r = and_from _ _ (lt-ltb _ _ (reached_in S h n w law p r)) (eq-eqb (ν p) (ν p) refl)

  pub alike : (r : ℕ → ℕ → Bool) × Matching S h m (λ a b. r a b ≡ true)
  alike = (
    related,
    record {
      one = λ a b c d x y.
          let p = from_related a b x in
          let q = from_related c d y in (
            λ e. sym p.1 ∙ ap ν e ∙ q.1,
            λ e. t.distinct a c (reached_both t a p.0).0 (reached_both t c q.0).0 (p.1 ∙ e ∙ sym q.1),
          );
      roots = roots_match t (λ a b. related a b ≡ true) to_related;
      heads = λ a b x. let p = from_related a b x in t.heads a (reached_both t a p.0).0 ∙ ap m.head p.1;
      references = λ a b i x e.
          let p = from_related a b x in
          subst (λ c. Match (λ u v. related u v ≡ true) (h.field a i) (m.field c i)) p.1 (fields_match t (λ u v. related u v ≡ true) to_related a i p.0 e);
      plains = λ a b i x e. let p = from_related a b x in t.plains a i (reached_both t a p.0).0 e ∙ ap (λ c. m.field c i) p.1;
    },
  )

pub tied_alike : (S : Shape) → Lawful S → TiedAlike S
tied_alike S law h m ν n w t = alike S law h m ν n w t

-- the other holds references up to the number of its objects
module _ {S : Shape} {h : Graph} (c : Content) {ν : ℕ → ℕ} {n : ℕ} (w : Within S h n) (t : Tied S h (graph_of c) ν) where
  reached_below : (o : ℕ) → Reach S (graph_of c) o → o < length c.objects
  reached_below o r =
      let there = t.found o r in
      subst (λ x. x < length c.objects) there.2 (ltb-true (ν there.0) (length c.objects) (t.numbered there.0 there.1))

  value_below : (v : ℕ) → ((o : ℕ) → v ≡ suc o → Reach S (graph_of c) o) → v ≤ length c.objects
  value_below zero r = omega arith
  value_below (suc o) r = omega (arith, reached_below o (r o refl))

  tied_within : Within S (graph_of c) (length c.objects)
  tied_within = record {
    roots = λ k. value_below ((graph_of c).root k) (λ o e. by_root k e);
    past = λ k l. t.root_nil k (w.past k l);
    references = λ o i r e. value_below ((graph_of c).field o i) (λ p f. by_field i r e f);
  }

pub tied_content : (S : Shape) → Lawful S → TiedContent S
tied_content S law h c ν n w t =
    one_content S h (graph_of c) n (length c.objects) w (tied_within c w t) (tied_alike S law h (graph_of c) ν n w t)
