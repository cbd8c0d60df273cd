-- get, copy and clear change a root and nothing else: no mark and no word of an object changes, and the root then holds nil, what
-- a root held, or what a reference of an object held by a root named.
use Rattle.std.proofs.Common.{◌≡◌, ℕ, suc, ◌+◌, ◌<◌, ◌≤◌, true, cond, ◌&&◌, eqb, ltb, ◌⊎◌, length, get_or, Some, None, Ok, Result, Option, sym, refl, ap, ◌∙◌, subst, inl, inr, arith}
use Rattle.image.specs.Content.{Content}
use Rattle.heap.specs.Effects.{Held, SameMarks, Gets, Copies, Clears}
use Rattle.heap.proofs.Keeps.{Keeps}
use Rattle.layout.specs.Shape.{Shape}
use Rattle.memory.specs.State.{State, word_in, root_in, with_root as with_heap_root}
use Rattle.memory.specs.Edits.{named_by, get_reference, copy_root, clear_root}
use Rattle.model.specs.Edits.{held, numbered, word_at, with_root, get_reference as model_get, copy, clear}
use Rattle.model.specs.declared.edits.Refusal.{Refusal}
use Rattle.model.proofs.Contents.{set_tells}
use Rattle.std.proofs.lemmas.Bool.Decides.{nat_tests}
use Rattle.std.proofs.lemmas.Bool.{cases_Bool, cases_eq, cond-true, cond-false, ltb-true, and_parts, both_ways}
use Rattle.life.proofs.Agree.{Agree, object_is}
use Rattle.life.proofs.InBoth.{GetInBoth, no, yes, get_in_both}
use Rattle.life.proofs.EditedSame.{same_edits, edits_as}
use Rattle.life.proofs.Facts.{Named, Edits}

module _ {S : Shape} {s : State} {m : Content} {ν : ℕ → ℕ} (a : Agree S s m ν) where
  -- root k takes over u, which is nil or names an object that can be named through a root
  pub hold_edits : (t : State) (k u : ℕ) (v : Option ℕ) → k < 64 → Held s t k v → SameMarks s t → ((n : ℕ) → u ≡ suc n → ((j : ℕ) × (held m j ≡ suc n)) ⊎ Named S m n) → Edits S s t m (with_root m k u) ν ν
  hold_edits t k u v l x y ok = record {
    phase = y.phase;
    grown = omega arith;
    heads = λ n o. refl;
    stays = λ q st. (ap (λ f. f q) x.starts ∙ st, refl, ap (λ ws. get_or ws q 0) x.words);
    new-one = λ q st. inl (sym (ap (λ f. f q) x.starts) ∙ st);
    kept = λ q e. y.marked q ∙ e;
    awaits = λ q e. y.pending q ∙ e;
    only = λ q st e f. absurd (both_ways (s.marks.marked q) f (sym (y.marked q) ∙ e));
    no_more = λ q e. inl (sym (y.pending q) ∙ e);
    born = λ o q e f. absurd (both_ways (s.starts q) f (sym (ap (λ g. g q) x.starts) ∙ e));
    written = λ p i q st f sq e. inl (ap (λ ws. get_or ws (p + i) 0) x.words ∙ e);
    roots = λ j n e. names j n (sym (set_tells m.roots k u j 0 (omega (arith, a.whole.rooms))) ∙ e);
    fields = λ o i n f e. inl (f, e);
  }
    where
      names : (j n : ℕ) → cond (eqb j k) u (held m j) ≡ suc n → ((j : ℕ) × (held m j ≡ suc n)) ⊎ (Named S m n ⊎ (length m.objects ≤ n))
      names j n e = elim (cases_eq j k) [
        | inl c ↦ (let d : u ≡ suc n = grind (arith, nat_tests) in elim (ok n d) [ inl r ↦ inl r | inr r ↦ inr (inl r) ])
        | inr c ↦ (let d : held m j ≡ suc n = grind (arith, nat_tests) in inl (j, d))
      ]

  pub copy_edits : (i k : ℕ) → Keeps S s (λ t r. Copies s t i k r) (copy_root s i k) → Edits S s (copy_root s i k).1 m (copy m i k).1 ν ν
  copy_edits i k keep = elim (cases_Bool (ltb i 64 && ltb k 64)) [
    | inr e ↦ edits_as (cond-false _ _ _ e) (cond-false _ _ _ e) (same_edits S s m ν)
    | inl e ↦ (let E = cond-true _ _ _ e in edits_as E (cond-true _ _ _ e) (go e (subst (Keeps S s (λ t r. Copies s t i k r)) E keep)))
  ]
    where
      go : (ltb i 64 && ltb k 64) ≡ true → Keeps S s (λ t r. Copies s t i k r) (Ok tt, with_heap_root s k (root_in s i)) → Edits S s (with_heap_root s k (root_in s i)) m (with_root m k (held m i)) ν ν
      go e x =
          hold_edits (with_heap_root s k (root_in s i)) k (held m i) (root_in s i) (ltb-true k 64 (and_parts (ltb i 64) (ltb k 64) e).1) x.effect.0 x.effect.1
          (λ n z. inl (i, z))

  pub clear_edits : (i : ℕ) → Keeps S s (λ t r. Clears s t i r) (clear_root s i) → Edits S s (clear_root s i).1 m (clear m i).1 ν ν
  clear_edits i keep = elim (cases_Bool (ltb i 64)) [
    | inr e ↦ edits_as (cond-false _ _ _ e) (cond-false _ _ _ e) (same_edits S s m ν)
    | inl e ↦ (let E = cond-true _ _ _ e in edits_as E (cond-true _ _ _ e) (go e (subst (Keeps S s (λ t r. Clears s t i r)) E keep)))
  ]
    where
      go : ltb i 64 ≡ true → Keeps S s (λ t r. Clears s t i r) (Ok tt, with_heap_root s i None) → Edits S s (with_heap_root s i None) m (with_root m i 0) ν ν
      go e x = hold_edits (with_heap_root s i None) i 0 None (ltb-true i 64 e) x.effect.0 x.effect.1 (λ n z. absurd (omega arith))

  pub get_edits : (i position k : ℕ) → Keeps S s (λ t r. Gets S s t i position k r) (get_reference S s i position k) → Edits S s (get_reference S s i position k).1 m (model_get S m i position k).1 ν ν
  get_edits i position k keep = go (get_in_both a i position k) keep
    where
      go : {x : Result (Unit {0}) Refusal × State} {y : Result (Unit {0}) Refusal × Content} → GetInBoth S s m ν i position k x y → Keeps S s (λ t r. Gets S s t i position k r) x → Edits S s x.1 m y.1 ν ν
      go (no why) x = same_edits S s m ν
      go (yes p e n st z f) x =
          let t = with_heap_root s k (named_by (word_in s (p + position))) in
          let o : Some x.effect.0 ≡ Some p = sym x.effect.1 ∙ n in
          let c : x.effect.0 ≡ p = cc in
          let y : Held s t k (named_by (word_in s (p + position))) = subst (λ q. Held s t k (named_by (word_in s (q + position)))) c x.effect.3 in
          let d = object_is m (held m i) (ν p) z in
          hold_edits t k (word_at (numbered m (held m i)) position) (named_by (word_in s (p + position))) (ltb-true k 64 (and_parts (ltb i 64) (ltb k 64) e).1) y x.effect.4
          (λ q w. inr (record {
            root = i;
            object = ν p;
            position = position;
            held-there = z;
            reference = ap (λ h. S.reference h position) (sym (a.tied.heads p st)) ∙ f;
            word = ap (λ b. word_at b position) (sym d) ∙ w;
          }))
