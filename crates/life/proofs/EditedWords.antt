-- set and put write one word of an object that a root holds. While marking, set marks what the old reference named, and the new
-- reference is one that a root holds; put writes no reference.
use Rattle.std.proofs.Common.{◌≡◌, ℕ, suc, ◌+◌, ◌-◌, ◌<◌, ◌≤◌, true, cond, ◌&&◌, eqb, ◌⊎◌, set, Some, Result, sym, refl, ap, ◌∙◌, subst, inl, inr, arith}
use Rattle.image.specs.Content.{Content}
use Rattle.heap.specs.Effects.{Wrote, Guards, SameMarks, Sets, Puts}
use Rattle.heap.specs.Sound.{Sound}
use Rattle.heap.proofs.Keeps.{Keeps}
use Rattle.layout.specs.Shape.{Shape, Lawful}
use Rattle.memory.specs.State.{State, word_in, root_in, with_word as with_heap_word}
use Rattle.memory.specs.Edits.{reference_to, set_reference, storing, put_word}
use Rattle.memory.specs.declared.phase.Phase.TheVariants.{Marking}
use Rattle.model.specs.Edits.{held, object_at, numbered, word_at, with_word, set_reference as model_set, put_word as model_put, graph_of as model_graph}
use Rattle.model.specs.declared.edits.Refusal.{Refusal}
use Rattle.model.proofs.Changes.{write}
use Rattle.model.proofs.Contents.{word_equal}
use Rattle.model.proofs.Views.{Equal, plain-inside}
use Rattle.model.proofs.Writing.{not_both}
use Rattle.std.proofs.lemmas.List.{length-set}
use Rattle.std.proofs.lemmas.Bool.Decides.{nat_tests}
use Rattle.std.proofs.lemmas.Bool.{cases_eq, both_ways}
use Rattle.life.proofs.Agree.{Agree, number_below}
use Rattle.life.proofs.InBoth.{SetInBoth, PutInBoth, no, yes, set_in_both, put_in_both}
use Rattle.life.proofs.EditedSame.{same_edits}
use Rattle.life.proofs.Facts.{Named, Edits}
use Rattle.life.proofs.Words.{wrote_looks}

-- where no mark changes, none does for an old reference, and nil is one that names nothing
pub same_guards : {s t : State} → SameMarks s t → Guards s t 0
same_guards {s} {t} y = record {
  phase = y.phase;
  named = λ o q e. absurd (omega arith);
  kept = λ q e. y.marked q ∙ e;
  awaits = λ q e. y.pending q ∙ e;
  only = λ q e f. absurd (both_ways (s.marks.marked q) f (sym (y.marked q) ∙ e));
  no_more = λ q e. inl (sym (y.pending q) ∙ e);
}

module _ {S : Shape} (law : Lawful S) {s : State} {m : Content} {ν : ℕ → ℕ} (a : Agree S s m ν) where
  -- the word at position i of the object at p, and of its number, becomes w and u; `old` is the reference that stood there, if it
  -- is one
  module _ (t : State) (p i w u old : ℕ) (st : s.starts p ≡ true) (l : 1 ≤ i) (k : i < S.size (word_in s p)) (sound : Sound S t) (x : Wrote S s t p i w) (y : Guards s t old) where
    written_edits : ((q : ℕ) → s.starts q ≡ true → old ≡ suc q → Named S m (ν q)) → (S.reference (word_in s p) i ≡ true → word_in s (p + i) ≡ old)
        → (S.reference (word_in s p) i ≡ true → (n : ℕ) → u ≡ suc n → (j : ℕ) × (held m j ≡ suc n)) → Edits S s t m (with_word m (suc (ν p)) i u) ν ν
    written_edits named stood new = record {
      phase = y.phase;
      grown = omega (arith, length-set m.objects (suc (ν p) - 1) (record { header = (numbered m (suc (ν p))).header; body = set (numbered m (suc (ν p))).body (i - 1) u }));
      heads = λ n o. after.head n;
      stays = λ q sq. (x.starts q ∙ sq, refl, (wrote_looks a.sound st l x).head q sq);
      new-one = λ q sq. inl (sym (x.starts q) ∙ sq);
      kept = y.kept;
      awaits = y.awaits;
      only = λ q sq e f. (let g = y.only q e f in (g.1, named q sq g.0));
      no_more = λ q e. elim (y.no_more q e) [
        | inl f ↦ inl f
        | inr f ↦ inr (sym (x.starts q) ∙ sound.marked q (sound.awaited q e), f)
      ];
      born = λ o q e f. absurd (both_ways (s.starts q) f (sym (x.starts q) ∙ e));
      written = λ b j q sb f sq e. stands b j q sb f e;
      roots = λ j n e. inl (j, e);
      fields = λ o j n f e. names o j n (subst (λ h. S.reference h j ≡ true) (after.head o) f) e;
    }
      where
        after : Equal (write (model_graph m) (ν p) i u) (model_graph (with_word m (suc (ν p)) i u))
        after = word_equal a.whole (ν p) i u (number_below a p st) l (subst (λ h. i < S.size h) (a.tied.heads p st) k)

        stands : (b j q : ℕ) → s.starts b ≡ true → S.reference (word_in s b) j ≡ true → word_in s (b + j) ≡ suc q → (word_in t (b + j) ≡ suc q) ⊎ (s.phase ≡ Marking → t.marks.marked q ≡ true)
        stands b j q sb f e = elim (cases_eq b p) [
          | inl c ↦ elim (cases_eq j i) [
            | inl d ↦ (let f' : S.reference (word_in s p) i ≡ true = subst (λ z. S.reference (word_in s z) i ≡ true) c (subst (λ z. S.reference (word_in s b) z ≡ true) d f) in
                let g : b + j ≡ p + i = omega arith in
                inr (λ o. y.named o q (sym (stood f') ∙ ap (word_in s) (sym g) ∙ e)))
            | inr d ↦ inl (x.others b j sb (law.inside (word_in s b) j f).1 (λ g h. d h) ∙ e)
          ]
          | inr c ↦ inl (x.others b j sb (law.inside (word_in s b) j f).1 (λ g h. c g) ∙ e)
        ]

        names : (o j n : ℕ) → S.reference (object_at m.objects o).header j ≡ true → word_at (object_at (with_word m (suc (ν p)) i u).objects o) j ≡ suc n
            → ((S.reference (object_at m.objects o).header j ≡ true) × (word_at (object_at m.objects o) j ≡ suc n)) ⊎ ((r : ℕ) × (held m r ≡ suc n))
        names o j n f e = elim (cases_eq o (ν p)) [
          | inl c ↦ elim (cases_eq j i) [
            | inl d ↦ (let f' : S.reference (object_at m.objects (ν p)).header i ≡ true = subst (λ z. S.reference (object_at m.objects z).header i ≡ true) c (subst (λ z. S.reference (object_at m.objects o).header z ≡ true) d f) in
                inr (new (subst (λ h. S.reference h i ≡ true) (sym (a.tied.heads p st)) f') n (sym (on c d) ∙ e')))
            | inr d ↦ inl (f, sym (off (inr d)) ∙ e')
          ]
          | inr c ↦ inl (f, sym (off (inl c)) ∙ e')
        ]
          where
            e' : cond (eqb o (ν p) && eqb j i) u (word_at (object_at m.objects o) j) ≡ suc n
            e' = sym (after.field o j (law.inside (object_at m.objects o).header j f).0) ∙ e

            on : o ≡ ν p → j ≡ i → cond (eqb o (ν p) && eqb j i) u (word_at (object_at m.objects o) j) ≡ u
            on c d = grind (arith, nat_tests)

            off : (o ≡ ν p → ⊥) ⊎ (j ≡ i → ⊥) → cond (eqb o (ν p) && eqb j i) u (word_at (object_at m.objects o) j) ≡ word_at (object_at m.objects o) j
            off d = grind (arith, nat_tests)

  pub set_edits : (i position k : ℕ) → Keeps S s (λ t r. Sets S s t i position k r) (set_reference S s i position k) → Edits S s (set_reference S s i position k).1 m (model_set S m i position k).1 ν ν
  set_edits i position k keep = go (set_in_both a i position k) keep
    where
      go : {x : Result (Unit {0}) Refusal × State} {y : Result (Unit {0}) Refusal × Content} → SetInBoth S s m ν i position k x y → Keeps S s (λ t r. Sets S s t i position k r) x → Edits S s x.1 m y.1 ν ν
      go (no why) x = same_edits S s m ν
      go (yes p e n st z f) x =
          let t = storing s p position (reference_to (root_in s k)) in
          let w = reference_to (root_in s k) in
          let o : Some x.effect.0 ≡ Some p = sym x.effect.1 ∙ n in
          let c : x.effect.0 ≡ p = cc in
          let b = law.inside (word_in s p) position f in
          let y : Wrote S s t p position w = subst (λ q. Wrote S s t q position w) c x.effect.3 in
          let g : Guards s t (word_in s (p + position)) = subst (λ q. Guards s t (word_in s (q + position))) c x.effect.4 in
          subst (λ v. Edits S s t m (with_word m v position (held m k)) ν ν) (sym z)
          (written_edits t p position w (held m k) (word_in s (p + position)) st b.0 b.1 x.sound y g
          (λ q sq d. record {
            root = i;
            object = ν p;
            position = position;
            held-there = z;
            reference = ap (λ h. S.reference h position) (sym (a.tied.heads p st)) ∙ f;
            word = a.tied.same p position q st f d;
          })
          (λ d. refl) (λ d q v. (k, v)))

  pub put_edits : (i position word : ℕ) → Keeps S s (λ t r. Puts S s t i position word r) (put_word S s i position word) → Edits S s (put_word S s i position word).1 m (model_put S m i position word).1 ν ν
  put_edits i position word keep = go (put_in_both a i position word) keep
    where
      go : {x : Result (Unit {0}) Refusal × State} {y : Result (Unit {0}) Refusal × Content} → PutInBoth S s m ν i position word x y → Keeps S s (λ t r. Puts S s t i position word r) x → Edits S s x.1 m y.1 ν ν
      go (no why) x = same_edits S s m ν
      go (yes p e n st z f) x =
          let t = with_heap_word s (p + position) word in
          let o : Some x.effect.0 ≡ Some p = sym x.effect.1 ∙ n in
          let c : x.effect.0 ≡ p = cc in
          let b = plain-inside S (word_in s p) position f in
          let y : Wrote S s t p position word = subst (λ q. Wrote S s t q position word) c x.effect.3 in
          subst (λ v. Edits S s t m (with_word m v position word) ν ν) (sym z)
          (written_edits t p position word word 0 st b.0 b.1 x.sound y (same_guards x.effect.4)
          (λ q sq d. absurd (omega arith))
          (λ d. absurd (not_both S (word_in s p) position f d))
          (λ d. absurd (not_both S (word_in s p) position f d)))
