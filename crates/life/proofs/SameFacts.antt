-- A step that leaves the objects, the marks and the phase as they were keeps what is true of a marking.
use Rattle.std.proofs.Common.{◌≡◌, ℕ, suc, ◌+◌, true, ◌⊎◌, List, get_or, sym, ap, ◌∙◌, subst, inl, inr}
use Rattle.image.specs.Content.{Content}
use Rattle.heap.specs.Effects.{SameMarks}
use Rattle.heap.specs.Steps.{SameObjects}
use Rattle.layout.specs.Shape.{Shape}
use Rattle.memory.specs.State.{State, word_in}
use Rattle.memory.specs.declared.phase.Phase.{Phase}
use Rattle.memory.specs.declared.phase.Phase.TheVariants.{Idle, Marking, Marked}
use Rattle.life.proofs.Facts.{Stands, Underway, Over, Unscanned, Facts, FactsIn}

module _ {s t : State} (x : SameObjects s t) (y : SameMarks s t) where
  before : (q : ℕ) → t.starts q ≡ true → s.starts q ≡ true
  before q st = subst (λ f. f q ≡ true) x.starts st

  word_same : (k : ℕ) → word_in t k ≡ word_in s k
  word_same k = ap (λ ws. get_or ws k 0) x.words

  stood : (p i q : ℕ) → (s.marks.marked q ≡ true) ⊎ (Unscanned s p × (word_in s (p + i) ≡ suc q))
      → (t.marks.marked q ≡ true) ⊎ (Unscanned t p × (word_in t (p + i) ≡ suc q))
  stood p i q (inl k) = inl (y.marked q ∙ k)
  stood p i q (inr k) = inr (elim k.0 [ inl f ↦ inl (y.marked p ∙ f) | inr f ↦ inr (y.pending p ∙ f) ], word_same (p + i) ∙ k.1)

  module _ {S : Shape} {m : Content} {ν : ℕ → ℕ} {m₀ : Content} where
    stands_same : Stands S s m ν m₀ → Stands S t m ν m₀
    stands_same h = record {
      whole = h.whole;
      grown = h.grown;
      heads = h.heads;
      roots = h.roots;
      fields = h.fields;
      there = λ n r. (let w = h.there n r in (w.0, subst (λ f. f w.0 ≡ true) (sym x.starts) w.1, w.2));
      made = λ q st l. y.marked q ∙ h.made q (before q st) l;
      known = λ q k. h.known q (sym (y.marked q) ∙ k);
    }

    underway_same : {xs : List ℕ} → Underway S s m ν m₀ xs → Underway S t m ν m₀ xs
    underway_same u = record {
      stands = stands_same u.stands;
      waiting = λ p w. u.waiting p (sym (y.pending p) ∙ w);
      rooted = λ k p st d. y.marked p ∙ u.rooted k p (before p st) d;
      kept = λ p i q st r f sq d. stood p i q (u.kept p i q (before p st) r (subst (λ w. S.reference w i ≡ true) (word_same p) f) (before q sq) d);
      single = u.single;
      listed = λ p st r k w. u.listed p (before p st) r (sym (y.marked p) ∙ k) (sym (y.pending p) ∙ w);
      scanned = λ p st i. (let z = u.scanned p (before p st) i in (y.marked p ∙ z.0, y.pending p ∙ z.1));
      found = u.found;
    }

    over_same : {xs : List ℕ} → Over S s m ν m₀ xs → Over S t m ν m₀ xs
    over_same u = record {
      stands = stands_same u.stands;
      all = λ p st r. y.marked p ∙ u.all p (before p st) r;
      single = u.single;
      listed = u.listed;
      found = u.found;
    }

pub facts_refine : {s t : State} → SameObjects s t → SameMarks s t → (S : Shape) (m : Content) (ν : ℕ → ℕ) (m₀ : Content) (xs : List ℕ)
    → Facts S s m ν m₀ xs → Facts S t m ν m₀ xs
facts_refine {s} {t} x y S m ν m₀ xs f = subst (λ z. FactsIn S t m ν m₀ xs z) (sym y.phase) (go s.phase f)
  where
    go : (z : Phase) → FactsIn S s m ν m₀ xs z → FactsIn S t m ν m₀ xs z
    go Idle f = tt
    go Marking f = underway_same x y f
    go Marked f = over_same x y f
