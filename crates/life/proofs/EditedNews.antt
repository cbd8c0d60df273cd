-- new makes an object under the next number, which a root then holds; it names nothing, and unless the phase is idle it is marked
-- and not pending. Where the heap lacks space it alters nothing, and the other does not hear of it.
use Rattle.std.proofs.Common.{◌≡◌, ℕ, suc, ◌+◌, ◌-◌, ◌<◌, ◌≤◌, true, false, cond, eqb, ltb, ◌⊎◌, length, get_or, replicate, Some, None, Ok, Option, Result, sym, ◌∙◌, subst, inl, inr, arith}
use Rattle.image.specs.Content.{Content}
use Rattle.heap.specs.Effects.{graph_of as heap_graph, Made, Births, Makes}
use Rattle.heap.proofs.Keeps.{Keeps}
use Rattle.layout.specs.Shape.{Shape, Lawful}
use Rattle.memory.specs.State.{State, word_in, root_in, with_regions, with_root as with_heap_root}
use Rattle.memory.specs.Edits.{reference_to}
use Rattle.memory.specs.Objects.{new_object, new_at, born, laid}
use Rattle.model.specs.Edits.{held, object_at, word_at, with_object, with_root, new, graph_of as model_graph}
use Rattle.model.specs.declared.edits.Edit.TheVariants.{New}
use Rattle.model.specs.declared.edits.Refusal.{Refusal}
use Rattle.model.specs.declared.edits.Reply.{Reply}
use Rattle.model.specs.declared.edits.Reply.TheVariants.{Granted}
use Rattle.model.proofs.Changes.{hold, add}
use Rattle.model.proofs.NewObject.{new_equal}
use Rattle.model.proofs.Views.{Equal, Looks}
use Rattle.std.proofs.lemmas.List.{length_push}
use Rattle.std.proofs.lemmas.Bool.Decides.{nat_tests}
use Rattle.std.proofs.lemmas.Bool.{cases_Bool, cases_eq, cond-true, cond-false, ltb-true, both_ways, false≢true}
use Rattle.tables.specs.declared.regions.Regions.{Regions}
use Rattle.tables.specs.Regions.{taken}
use Rattle.life.specs.Faithful.{lacking, number_new, number_on}
use Rattle.life.specs.Serving.{altering}
use Rattle.life.proofs.Agree.{Agree}
use Rattle.life.proofs.EditedSame.{same_edits}
use Rattle.life.proofs.Facts.{Named, Edits}
use Rattle.life.proofs.News.{made_looks}

-- what new does, p in the heap and q in the other: nothing, for want of space, or the same in both
abbrev pub NewEdits : Shape → State → Content → (ℕ → ℕ) → ℕ → ℕ → Result Reply Refusal × State → Result (Unit {0}) Refusal × Content → Type 0
NewEdits S s m ν root h p q =
    (lacking p.0 ≡ true → Edits S s p.1 m m ν ν)
    × (lacking p.0 ≡ false → Edits S s p.1 m q.1 ν (number_on ν (length m.objects) (New root h) p))

module _ {S : Shape} (law : Lawful S) {s : State} {m : Content} {ν : ℕ → ℕ} (a : Agree S s m ν) (root h : ℕ) where
  abbrev n : ℕ
  n = length m.objects

  made_edits : (t : State) → root < 64 → S.legal h ≡ true → (p : ℕ) → Made S s t root h p → Births s t p (S.size h) → Edits S s t m (with_root (with_object S m h) root (suc n)) ν (number_new ν n root t (Ok Granted))
  made_edits t l legal p x y = record {
    phase = y.phase;
    grown = omega (arith, longer);
    heads = λ o k. after.head o ∙ off o h (object_at m.objects o).header (λ e. omega arith);
    stays = λ q st. (x.starts q ∙ into q st, number_old q (apart q st), looks.head q (into q st) ∙ other q h (word_in s q) (apart q st));
    new-one = λ q st. elim (is q (sym (x.starts q) ∙ st)) [
      | inl e ↦ inr (subst (λ k. s.starts k ≡ false) (sym e) x.fresh, omega (arith, number-new q e))
      | inr e ↦ inl e
    ];
    kept = λ q e. y.others q (apart q (a.sound.marked q e)) ∙ e;
    awaits = λ q e. y.pending q ∙ e;
    only = λ q st e f. absurd (both_ways (s.marks.marked q) f (sym (y.others q (apart q st)) ∙ e));
    no_more = λ q e. inl (sym (y.pending q) ∙ e);
    born = λ o q st f. elim (is q (sym (x.starts q) ∙ st)) [
      | inl e ↦ (subst (λ k. t.marks.marked k ≡ true) (sym e) (y.marked o), y.pending q ∙ not_pending q f)
      | inr e ↦ absurd (both_ways (s.starts q) f e)
    ];
    written = λ b i q st f sq e. inl (x.others b i st (law.inside (word_in s b) i f).1 ∙ e);
    roots = λ j o e. names j o (sym (after.root j) ∙ e);
    fields = λ o i q f e. fields o i q (subst (λ k. S.reference k i ≡ true) (after.head o) f) e;
  }
    where
      after : Equal (hold (add (model_graph m) n h) root (suc n)) (model_graph (with_root (with_object S m h) root (suc n)))
      after = new_equal a.whole h root l

      looks : Looks S (hold (add (heap_graph s) p h) root (suc p)) (heap_graph t)
      looks = made_looks law a.sound l legal x

      longer : length (with_object S m h).objects ≡ n + 1
      longer = length_push m.objects (record { header = h; body = replicate (S.size h - 1) 0 })

      is : (q : ℕ) → cond (eqb q p) true (s.starts q) ≡ true → (q ≡ p) ⊎ (s.starts q ≡ true)
      is q e = grind (arith, nat_tests)

      into : (q : ℕ) → s.starts q ≡ true → cond (eqb q p) true (s.starts q) ≡ true
      into q e = grind (arith, nat_tests)

      apart : (q : ℕ) → s.starts q ≡ true → q ≡ p → ⊥
      apart q st e = both_ways (s.starts p) x.fresh (subst (λ k. s.starts k ≡ true) e st)

      off : (o w z : ℕ) → (o ≡ n → ⊥) → cond (eqb o n) w z ≡ z
      off o w z d = grind (arith, nat_tests)

      other : (q w z : ℕ) → (q ≡ p → ⊥) → cond (eqb q p) w z ≡ z
      other q w z d = grind (arith, nat_tests)

      -- the numbers of the new object and of the others
      holds : reference_to (root_in t root) ≡ suc p
      holds = looks.root root ∙ here
        where
          here : cond (eqb root root) (suc p) (reference_to (get_or s.roots root None)) ≡ suc p
          here = grind (arith, nat_tests)

      number-new : (q : ℕ) → q ≡ p → number_new ν n root t (Ok Granted) q ≡ n
      number-new q e = tidy (reference_to (root_in t root)) holds
        where
          tidy : (r : ℕ) → r ≡ suc p → cond (eqb r (suc q)) n (ν q) ≡ n
          tidy r d = grind (arith, nat_tests)

      number_old : (q : ℕ) → (q ≡ p → ⊥) → number_new ν n root t (Ok Granted) q ≡ ν q
      number_old q e = tidy (reference_to (root_in t root)) holds
        where
          tidy : (r : ℕ) → r ≡ suc p → cond (eqb r (suc q)) n (ν q) ≡ ν q
          tidy r d = grind (arith, nat_tests)

      not_pending : (q : ℕ) → s.starts q ≡ false → s.marks.pending q ≡ false
      not_pending q f = elim (cases_Bool (s.marks.pending q)) [
        | inl e ↦ absurd (both_ways (s.starts q) f (a.sound.marked q (a.sound.awaited q e)))
        | inr e ↦ e
      ]

      names : (j o : ℕ) → cond (eqb j root) (suc n) (held m j) ≡ suc o → ((k : ℕ) × (held m k ≡ suc o)) ⊎ (Named S m o ⊎ (n ≤ o))
      names j o e = elim (cases_eq j root) [
        | inl c ↦ (let d : n ≤ o = grind (arith, nat_tests) in inr (inr d))
        | inr c ↦ (let d : held m j ≡ suc o = grind (arith, nat_tests) in inl (j, d))
      ]

      fields : (o i q : ℕ) → S.reference (cond (eqb o n) h (object_at m.objects o).header) i ≡ true → word_at (object_at (with_object S m h).objects o) i ≡ suc q
          → ((S.reference (object_at m.objects o).header i ≡ true) × (word_at (object_at m.objects o) i ≡ suc q)) ⊎ ((j : ℕ) × (held m j ≡ suc q))
      fields o i q f e =
          let e' : cond (eqb o n) 0 (word_at (object_at m.objects o) i) ≡ suc q = sym (after.field o i (law.inside (cond (eqb o n) h (object_at m.objects o).header) i f).0) ∙ e in
          elim (cases_eq o n) [
            | inl c ↦ absurd (blank c e')
            | inr c ↦ inl (subst (λ k. S.reference k i ≡ true) (off o h (object_at m.objects o).header c) f, sym (off o 0 (word_at (object_at m.objects o) i) c) ∙ e')
          ]
        where
          blank : o ≡ n → cond (eqb o n) 0 (word_at (object_at m.objects o) i) ≡ suc q → ⊥
          blank c e = let z : cond (eqb o n) 0 (word_at (object_at m.objects o) i) ≡ 0 = grind (arith, nat_tests) in omega arith

  pub new_edits : Keeps S s (λ t r. Makes S s t root h r) (new_object S s root h) → NewEdits S s m ν root h (altering (new_object S s root h)) (new S m root h)
  new_edits keep = elim (cases_Bool (ltb root 64)) [
    | inr e ↦ through (cond-false _ _ _ e) (cond-false _ _ _ e) (λ o. absurd (false≢true o), λ o. same_edits S s m ν)
    | inl e ↦ elim (cases_Bool (S.legal h)) [
      | inr f ↦ through (cond-true _ _ _ e ∙ cond-false _ _ _ f) (cond-true _ _ _ e ∙ cond-false _ _ _ f) (λ o. absurd (false≢true o), λ o. same_edits S s m ν)
      | inl f ↦ at (ltb-true root 64 e) f (taken s.regions (S.size h)) (cond-true _ _ _ e ∙ cond-true _ _ _ f) (cond-true _ _ _ e ∙ cond-true _ _ _ f)
    ]
  ]
    where
      through : {x x' : Result (Unit {0}) Refusal × State} {q q' : Result (Unit {0}) Refusal × Content} → x' ≡ x → q' ≡ q → NewEdits S s m ν root h (altering x) q → NewEdits S s m ν root h (altering x') q'
      through {x} {x'} {q} {q'} e d o = subst (λ y. NewEdits S s m ν root h (altering y) q') (sym e) (subst (λ z. NewEdits S s m ν root h (altering x) z) (sym d) o)

      at : root < 64 → S.legal h ≡ true → (x : Option ℕ × Regions) → new_object S s root h ≡ new_at s root h (S.size h) x → new S m root h ≡ (Ok tt, with_root (with_object S m h) root (suc n)) → NewEdits S s m ν root h (altering (new_object S s root h)) (new S m root h)
      at l f (None, r) E D =
          let x = subst (Keeps S s (λ t r. Makes S s t root h r)) E keep in
          through E D (λ o. subst (λ t. Edits S s t m m ν ν) (sym x.effect) (same_edits S s m ν), λ o. absurd (false≢true (sym o)))
      at l f (Some p, r) E D =
          let x = subst (Keeps S s (λ t r. Makes S s t root h r)) E keep in
          through E D (λ o. absurd (false≢true o), λ o. made_edits (with_heap_root (born s.phase (laid (with_regions s r) p h (S.size h)) p (S.size h)) root (Some p)) l f x.effect.0 x.effect.1 x.effect.2)
