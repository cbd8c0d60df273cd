-- A marking is done when nothing is pending: then all that was reached at the begin is marked, step by step from the roots, and
-- is on the list of what was scanned.
use Rattle.std.proofs.Common.{◌≡◌, ℕ, suc, true, false, List, sym, refl, ap, ◌∙◌, subst, inl, inr}
use Rattle.image.specs.Content.{Content}
use Rattle.heap.specs.Steps.{Ends}
use Rattle.layout.specs.Shape.{Shape}
use Rattle.memory.specs.State.{State, word_in}
use Rattle.memory.specs.declared.phase.Phase.TheVariants.{Marking}
use Rattle.model.specs.Edits.{object_at, word_at}
use Rattle.model.specs.Graph.{by_root, by_field}
use Rattle.std.proofs.lemmas.Bool.{both_ways}
use Rattle.life.specs.Snapshot.{Reached, among}
use Rattle.life.proofs.Agree.{Agree}
use Rattle.life.proofs.Facts.{Underway, Over, Unscanned, Facts, FactsIn}
use Rattle.life.proofs.Standing.{head_then}

module _ {S : Shape} {s : State} {m : Content} {ν : ℕ → ℕ} {m₀ : Content} {xs : List ℕ}
    (a : Agree S s m ν) (u : Underway S s m ν m₀ xs) (none : (q : ℕ) → s.marks.pending q ≡ false) where
  -- an object that is marked is scanned
  done : (p : ℕ) → s.marks.marked p ≡ true → Unscanned s p → ⊥
  done p k (inl f) = both_ways _ f k
  done p k (inr w) = both_ways _ (none p) w

  pub all-marked : (n : ℕ) → Reached S m₀ n → (p : ℕ) → s.starts p ≡ true → ν p ≡ n → s.marks.marked p ≡ true
  all-marked n (by_root k e) p st d = u.rooted k p st (e ∙ ap suc (sym d))
  all-marked n (by_field {o = o} i r f e) p st d =
      let w = u.stands.there o r in
      let r' : Reached S m₀ (ν w.0) = subst (Reached S m₀) (sym w.2) r in
      let f' : S.reference (object_at m₀.objects (ν w.0)).header i ≡ true = subst (λ k. S.reference (object_at m₀.objects k).header i ≡ true) (sym w.2) f in
      let g : S.reference (word_in s w.0) i ≡ true = subst (λ h. S.reference h i ≡ true) (sym (head_then u.stands a w.0 w.1 r')) f' in
      let e' : word_at (object_at m₀.objects (ν w.0)) i ≡ suc (ν p) = ap (λ k. word_at (object_at m₀.objects k) i) w.2 ∙ e ∙ ap suc (sym d) in
      let k = all-marked o r w.0 w.1 w.2 in
      elim (u.kept w.0 i p w.1 r' g st e') [ inl y ↦ y | inr y ↦ absurd (done w.0 k y.0) ]

  pub all_listed : (n : ℕ) → Reached S m₀ n → among xs n ≡ true
  all_listed n r =
      let w = u.stands.there n r in
      subst (λ k. among xs k ≡ true) w.2
      (u.listed w.0 w.1 (subst (Reached S m₀) (sym w.2) r) (all-marked n r w.0 w.1 w.2) (none w.0))

module _ {S : Shape} {s t : State} {m : Content} {ν : ℕ → ℕ} (a : Agree S s m ν) (x : Ends S s t) where
  before : (q : ℕ) → t.starts q ≡ true → s.starts q ≡ true
  before q st = subst (λ f. f q ≡ true) x.same.starts st

  over_done : {m₀ : Content} {xs : List ℕ} → Underway S s m ν m₀ xs → Over S t m ν m₀ xs
  over_done {m₀} {xs} u = record {
    stands = record {
      whole = u.stands.whole;
      grown = u.stands.grown;
      heads = u.stands.heads;
      roots = u.stands.roots;
      fields = u.stands.fields;
      there = λ n r. (let w = u.stands.there n r in (w.0, subst (λ f. f w.0 ≡ true) (sym x.same.starts) w.1, w.2));
      made = λ q st l. x.marked q ∙ u.stands.made q (before q st) l;
      known = λ q k. u.stands.known q (sym (x.marked q) ∙ k);
    };
    all = λ p st r. x.marked p ∙ all-marked a u x.none (ν p) r p (before p st) refl;
    single = u.single;
    listed = all_listed a u x.none;
    found = u.found;
  }

pub facts_done : {S : Shape} {s t : State} {m : Content} {ν : ℕ → ℕ} → Agree S s m ν → s.phase ≡ Marking → Ends S s t
    → (m₀ : Content) (xs : List ℕ) → Facts S s m ν m₀ xs → Facts S t m ν m₀ xs
facts_done {S} {s} {t} {m} {ν} a now x m₀ xs f =
    subst (λ y. FactsIn S t m ν m₀ xs y) (sym x.phase)
    (over_done a x (subst (λ y. FactsIn S s m ν m₀ xs y) now f))
