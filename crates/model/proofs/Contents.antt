-- How the edits change the objects and roots of a content, seen as a graph; and that references go on naming objects.
use Rattle.std.proofs.Common.{◌≡◌, ℕ, suc, ◌-◌, ◌<◌, ◌≤◌, true, cond, ◌&&◌, eqb, ltb, ◌⊎◌, List, [], length, get_or, set, replicate, sym, refl, ap, ◌∙◌, subst, inl, inr, arith}
use Rattle.image.specs.Content.{Content, Object}
use Rattle.layout.specs.Shape.{Shape, Lawful}
use Rattle.std.proofs.lemmas.List.{length-set, get_or-set_same, get_or-set_other, length-replicate, places}
use Rattle.std.proofs.lemmas.Bool.Decides.{nat_tests}
use Rattle.std.proofs.lemmas.Bool.{cases_eq, lt-ltb, ltb-true}
use Rattle.model.specs.Edits.{start, object_at, word_at, with_root, with_word, graph_of}
use Rattle.model.proofs.Adding.{Closed}
use Rattle.model.proofs.Changes.{write, hold}
use Rattle.model.proofs.Views.{Equal}

-- 64 roots, a body of the right length for each object, and references that name objects
pub record Whole (S : Shape) (m : Content) : Type 0 where
  pub rooms : length m.roots ≡ 64
  pub bodies : (n : ℕ) → n < length m.objects → suc (length (object_at m.objects n).body) ≡ S.size (object_at m.objects n).header
  pub closed : Closed S (graph_of m)

-- what a list holds after one place is set
pub set_tells : {A : Type 0} (xs : List A) (i : ℕ) (v : A) (j : ℕ) (d : A) → i < length xs → get_or (set xs i v) j d ≡ cond (eqb j i) v (get_or xs j d)
set_tells xs i v j d l = let a = get_or-set_same xs i v d l in let b = get_or-set_other xs i j v d in grind (arith, nat_tests)

-- zeros are zeros
pub zeros : (n k : ℕ) → get_or {A = ℕ} (replicate n 0) k 0 ≡ 0
zeros n k = grind (arith, places)

pub start-whole : (S : Shape) → Whole S start
start-whole S = record {
  rooms = length-replicate {A = ℕ} 64 0;
  bodies = λ n l. absurd (omega arith);
  closed = record {
    roots = λ k o e. absurd (nothing k o e);
    fields = λ o i q n f e. absurd (none o n);
  };
}
  where
    nothing : (k o : ℕ) → get_or {A = ℕ} (replicate 64 0) k 0 ≡ suc o → ⊥
    nothing k o e = omega (arith, zeros 64 k)

    none : (o : ℕ) → ltb o 0 ≡ true → ⊥
    none o e = omega (arith, ltb-true o 0 e)

module _ {S : Shape} {m : Content} (w : Whole S m) where
  pub root_equal : (k v : ℕ) → k < 64 → Equal (hold (graph_of m) k v) (graph_of (with_root m k v))
  root_equal k v l = record { node = λ o. refl; head = λ o. refl; field = λ o i p. refl; root = λ j. set_tells m.roots k v j 0 (omega (arith, w.rooms)) }

  pub root-whole : (k v : ℕ) → k < 64 → ((o : ℕ) → v ≡ suc o → o < length m.objects) → Whole S (with_root m k v)
  root-whole k v l ok = record {
    rooms = length-set m.roots k v ∙ w.rooms;
    bodies = w.bodies;
    closed = record {
      roots = λ j o e. go j o (sym (set_tells m.roots k v j 0 (omega (arith, w.rooms))) ∙ e);
      fields = w.closed.fields;
    };
  }
    where
      go : (j o : ℕ) → cond (eqb j k) v (get_or m.roots j 0) ≡ suc o → ltb o (length m.objects) ≡ true
      go j o e = elim (cases_eq j k) [
        | inl a ↦ lt-ltb o _ (ok o (grind (arith, nat_tests)))
        | inr a ↦ w.closed.roots j o (grind (arith, nat_tests))
      ]

  module _ (n i v : ℕ) (ln : n < length m.objects) (l : 1 ≤ i) (u : i < S.size (object_at m.objects n).header) where
    inside : i - 1 < length (object_at m.objects n).body
    inside = omega (arith, w.bodies n ln)

    abbrev changed : Object
    changed = record { header = (object_at m.objects n).header; body = set (object_at m.objects n).body (i - 1) v }

    objects-after : (with_word m (suc n) i v).objects ≡ set m.objects n changed
    objects-after = let e : suc n - 1 ≡ n = omega arith in ap (λ k. set m.objects k (record { header = (object_at m.objects k).header; body = set (object_at m.objects k).body (i - 1) v })) e

    at_object : (o : ℕ) → object_at (with_word m (suc n) i v).objects o ≡ cond (eqb o n) changed (object_at m.objects o)
    at_object o = ap (λ os. object_at os o) objects-after ∙ set_tells m.objects n changed o (record { header = 0; body = [] }) ln

    count-after : length (with_word m (suc n) i v).objects ≡ length m.objects
    count-after = ap length objects-after ∙ length-set m.objects n changed

    head-after : (o : ℕ) → (object_at (with_word m (suc n) i v).objects o).header ≡ (object_at m.objects o).header
    head-after o = let a = at_object o in grind (arith, nat_tests)

    field-after : (o j : ℕ) → 1 ≤ j → word_at (object_at (with_word m (suc n) i v).objects o) j ≡ cond (eqb o n && eqb j i) v (word_at (object_at m.objects o) j)
    field-after o j p = let a = at_object o in let t = set_tells (object_at m.objects n).body (i - 1) v (j - 1) 0 inside in grind (arith, nat_tests)

    pub word_equal : Equal (write (graph_of m) n i v) (graph_of (with_word m (suc n) i v))
    word_equal = record {
      node = λ o. ap (ltb o) count-after;
      head = head-after;
      field = λ o j p. field-after o j p;
      root = λ j. refl;
    }

    -- where v stands as a reference, it names an object
    pub word-whole : Lawful S → (S.reference (object_at m.objects n).header i ≡ true → (q : ℕ) → v ≡ suc q → q < length m.objects) → Whole S (with_word m (suc n) i v)
    word-whole law ok = record {
      rooms = w.rooms;
      bodies = λ o k. sized o (omega (arith, count-after));
      closed = record {
        roots = λ k o e. ap (ltb o) count-after ∙ w.closed.roots k o e;
        fields = λ o j q k f e. ap (ltb q) count-after ∙ names o j q (sym (ap (ltb o) count-after) ∙ k) (rw (head-after o) at f) e;
      };
    }
      where
        sized : (o : ℕ) → o < length m.objects → suc (length (object_at (with_word m (suc n) i v).objects o).body) ≡ S.size (object_at (with_word m (suc n) i v).objects o).header
        sized o k = let a = at_object o in let b = w.bodies o k in let c = length-set (object_at m.objects n).body (i - 1) v in grind (arith, nat_tests)

        names : (o j q : ℕ) → ltb o (length m.objects) ≡ true → S.reference (object_at m.objects o).header j ≡ true → word_at (object_at (with_word m (suc n) i v).objects o) j ≡ suc q → ltb q (length m.objects) ≡ true
        names o j q k f e = elim (cases_eq o n) [
          | inl a ↦ elim (cases_eq j i) [
            | inl b ↦ lt-ltb q _ (ok (subst (λ x. S.reference (object_at m.objects x).header i ≡ true) a (subst (λ y. S.reference (object_at m.objects o).header y ≡ true) b f)) q (sym (on a b) ∙ e'))
            | inr b ↦ w.closed.fields o j q k f (sym (off (inr b)) ∙ e')
          ]
          | inr a ↦ w.closed.fields o j q k f (sym (off (inl a)) ∙ e')
        ]
          where
            e' : cond (eqb o n && eqb j i) v (word_at (object_at m.objects o) j) ≡ suc q
            e' = sym (field-after o j (law.inside (object_at m.objects o).header j f).0) ∙ e

            on : o ≡ n → j ≡ i → cond (eqb o n && eqb j i) v (word_at (object_at m.objects o) j) ≡ v
            on a b = grind (arith, nat_tests)

            off : (o ≡ n → ⊥) ⊎ (j ≡ i → ⊥) → cond (eqb o n && eqb j i) v (word_at (object_at m.objects o) j) ≡ word_at (object_at m.objects o) j
            off d = grind (arith, nat_tests)
