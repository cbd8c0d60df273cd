-- One more object at the end of a content, with a body of zeros, which a root then holds: all others are as they were.
use Rattle.std.proofs.Common.{◌≡◌, ℕ, suc, ◌-◌, ◌<◌, true, cond, eqb, ltb, [], ◌∷◌, ◌++◌, length, replicate, sym, ap, ◌∙◌, subst, inl, inr, arith}
use Rattle.image.specs.Content.{Content, Object}
use Rattle.layout.specs.Shape.{Shape, Lawful}
use Rattle.std.proofs.lemmas.List.{length_push, get_or_push, get_or_append_left, length-replicate, places}
use Rattle.std.proofs.lemmas.Bool.Decides.{nat_tests}
use Rattle.std.proofs.lemmas.Bool.{cases_eq, lt-ltb, ltb-true}
use Rattle.model.specs.Edits.{object_at, word_at, with_root, with_object, graph_of}
use Rattle.model.proofs.Changes.{hold, add}
use Rattle.model.proofs.Contents.{Whole, set_tells, zeros, root-whole}
use Rattle.model.proofs.Views.{Equal}

module _ {S : Shape} {m : Content} (w : Whole S m) (h root : ℕ) (l : root < 64) where
  abbrev made : Object
  made = record { header = h; body = replicate (S.size h - 1) 0 }

  abbrev n : ℕ
  n = length m.objects

  abbrev none : Object
  none = record { header = 0; body = [] }

  object-after : (o : ℕ) → object_at (m.objects ++ (made ∷ [])) o ≡ cond (eqb o n) made (object_at m.objects o)
  object-after o = grind (arith, nat_tests, places)

  head-after : (o : ℕ) → (object_at (m.objects ++ (made ∷ [])) o).header ≡ cond (eqb o n) h (object_at m.objects o).header
  head-after o = let a = object-after o in grind (arith, nat_tests)

  field-after : (o i : ℕ) → word_at (object_at (m.objects ++ (made ∷ [])) o) i ≡ cond (eqb o n) 0 (word_at (object_at m.objects o) i)
  field-after o i = let a = object-after o in let z = zeros (S.size h - 1) (i - 1) in grind (arith, nat_tests)

  node-after : (o : ℕ) → ltb o (length (m.objects ++ (made ∷ []))) ≡ cond (eqb o n) true (ltb o n)
  node-after o = let e = length_push m.objects made in grind (arith, nat_tests)

  pub new_equal : Equal (hold (add (graph_of m) n h) root (suc n)) (graph_of (with_root (with_object S m h) root (suc n)))
  new_equal = record {
    node = node-after;
    head = head-after;
    field = λ o i p. field-after o i;
    root = λ j. set_tells m.roots root (suc n) j 0 (omega (arith, w.rooms));
  }

  pub new-whole : Lawful S → S.legal h ≡ true → Whole S (with_root (with_object S m h) root (suc n))
  new-whole law legal = root-whole added root (suc n) l (λ o e. omega (arith, length_push m.objects made))
    where
      old : (o : ℕ) → o < length (m.objects ++ (made ∷ [])) → (o ≡ n → ⊥) → o < n
      old o k d = omega (arith, length_push m.objects made)

      wider : (q : ℕ) → ltb q n ≡ true → ltb q (length (m.objects ++ (made ∷ []))) ≡ true
      wider q e = lt-ltb q _ (omega (arith, ltb-true q n e, length_push m.objects made))

      added : Whole S (with_object S m h)
      added = record {
        rooms = w.rooms;
        bodies = λ o k. elim (cases_eq o n) [
          | inl e ↦ ap (λ x. suc (length x.body)) (get_or_push m.objects made none o (sym e)) ∙ body ∙ sym (ap (λ x. S.size x.header) (get_or_push m.objects made none o (sym e)))
          | inr e ↦ (let a = get_or_append_left m.objects (made ∷ []) none o (old o k e) in ap (λ x. suc (length x.body)) a ∙ w.bodies o (old o k e) ∙ sym (ap (λ x. S.size x.header) a))
        ];
        closed = record {
          roots = λ k o e. wider o (w.closed.roots k o e);
          fields = λ o i q k f e. elim (cases_eq o n) [
            | inl d ↦ absurd (omega (arith, field-after o i, blank o i d))
            | inr d ↦ wider q (w.closed.fields o i q (lt-ltb o n (old o (ltb-true o _ k) d)) (subst (λ x. S.reference x i ≡ true) (head-after o ∙ skip o d) f) (sym (skip_field o i d) ∙ sym (field-after o i) ∙ e))
          ];
        };
      }
        where
          body : suc (length made.body) ≡ S.size h
          body = omega (arith, length-replicate {A = ℕ} (S.size h - 1) 0, law.least h legal)

          blank : (o i : ℕ) → o ≡ n → cond (eqb o n) 0 (word_at (object_at m.objects o) i) ≡ 0
          blank o i d = grind (arith, nat_tests)

          skip : (o : ℕ) → (o ≡ n → ⊥) → cond (eqb o n) h (object_at m.objects o).header ≡ (object_at m.objects o).header
          skip o d = grind (arith, nat_tests)

          skip_field : (o i : ℕ) → (o ≡ n → ⊥) → cond (eqb o n) 0 (word_at (object_at m.objects o) i) ≡ word_at (object_at m.objects o) i
          skip_field o i d = grind (arith, nat_tests)
