-- new makes an object in both, under the next number there: the two go on agreeing. Where the heap lacks space it alters
-- nothing, and the other does not hear of it.
use Rattle.std.proofs.Common.{◌≡◌, ℕ, suc, ◌+◌, ◌<◌, Bool, true, false, cond, eqb, ltb, ◌⊎◌, length, get_or, Some, None, Ok, Option, Result, sym, refl, ap, ◌∙◌, subst, inl, inr, arith}
use mathlib.Core.Path.{fun_ext}
use Rattle.image.specs.Content.{Content}
use Rattle.heap.specs.Effects.{graph_of as heap_graph, Made, Makes}
use Rattle.heap.specs.Sound.{Sound}
use Rattle.heap.proofs.Geometry.{some_word}
use Rattle.heap.proofs.Keeps.{Keeps}
use Rattle.layout.specs.Shape.{Shape, Lawful}
use Rattle.memory.specs.State.{State, word_in, root_in, with_regions, with_root as with_heap_root}
use Rattle.memory.specs.Edits.{reference_to}
use Rattle.memory.specs.Objects.{new_object, new_at, born, laid}
use Rattle.model.specs.Edits.{with_object, with_root, altering as model_altering, new, graph_of as model_graph}
use Rattle.model.specs.Tied.{Tied}
use Rattle.model.specs.declared.edits.Edit.{Edit}
use Rattle.model.specs.declared.edits.Edit.TheVariants.{New}
use Rattle.model.specs.declared.edits.Refusal.{Refusal}
use Rattle.model.specs.declared.edits.Reply.{Reply}
use Rattle.model.specs.declared.edits.Reply.TheVariants.{Granted}
use Rattle.model.proofs.Adding.{renumbered, tied_new}
use Rattle.model.proofs.Changes.{hold, add}
use Rattle.model.proofs.Contents.{set_tells}
use Rattle.model.proofs.NewObject.{new_equal, new-whole}
use Rattle.model.proofs.Views.{Looks, tied_looks, tied_equal}
use Rattle.std.proofs.lemmas.Bool.Decides.{nat_tests}
use Rattle.std.proofs.lemmas.Bool.{cases_Bool, cond-true, cond-false, ltb-true, le-ltb}
use Rattle.tables.specs.declared.regions.Regions.{Regions}
use Rattle.tables.specs.Regions.{taken}
use Rattle.life.specs.Faithful.{lacking, number_new, number_on}
use Rattle.life.specs.Serving.{altering}
use Rattle.life.proofs.Agree.{Agree}

-- how an edit ends, p in the heap and q in the other: for want of space, or alike
pub data Outcome (S : Shape) (m : Content) (ν : ℕ → ℕ) (e : Edit) (p : Result Reply Refusal × State) (q : Result Reply Refusal × Content) : Type 0 where
  lacked : lacking p.0 ≡ true → Agree S p.1 m ν → Outcome S m ν e p q
  heard : p.0 ≡ q.0 → Agree S p.1 q.1 (number_on ν (length m.objects) e p) → Outcome S m ν e p q

-- the new object and all others look as they should
pub made_looks : {S : Shape} {s t : State} {root h p : ℕ} → Lawful S → Sound S s → root < 64 → S.legal h ≡ true → Made S s t root h p → Looks S (hold (add (heap_graph s) p h) root (suc p)) (heap_graph t)
made_looks {S} {s} {t} {root} {h} {p} law sound l legal x = record {
  node = x.starts;
  head = λ q n. elim (is q n) [ inl e ↦ ap (word_in t) e ∙ x.head ∙ sym (on q h (word_in s q) e) | inr o ↦ old_head q o ∙ sym (off q h (word_in s q) o) ];
  field = λ q i n o u. elim (is q n) [
    | inl e ↦ ap (λ k. word_in t (k + i)) e ∙ x.body i o (subst (λ k. i < S.size k) (on q h (word_in s q) e) u) ∙ sym (on q 0 (word_in s (q + i)) e)
    | inr k ↦ x.others q i k (subst (λ z. i < S.size z) (off q h (word_in s q) k) u) ∙ sym (off q 0 (word_in s (q + i)) k)
  ];
  root = λ j. ap (λ rs. reference_to (get_or rs j None)) x.roots ∙ ap reference_to (set_tells s.roots root (Some p) j None (omega (arith, sound.rooms))) ∙ out (eqb j root) (get_or s.roots j None);
}
  where
    is : (q : ℕ) → cond (eqb q p) true (s.starts q) ≡ true → (q ≡ p) ⊎ (s.starts q ≡ true)
    is q e = grind (arith, nat_tests)

    on : (q w y : ℕ) → q ≡ p → cond (eqb q p) w y ≡ w
    on q w y e = grind (arith, nat_tests)

    off : (q w y : ℕ) → s.starts q ≡ true → cond (eqb q p) w y ≡ y
    off q w y o = let d : q ≡ p → ⊥ = λ e. (let z : s.starts p ≡ true = subst (λ k. s.starts k ≡ true) e o in let z' = x.fresh in grind arith) in grind (arith, nat_tests)

    old_head : (q : ℕ) → s.starts q ≡ true → word_in t q ≡ word_in s q
    old_head q o = let e : q + 0 ≡ q = omega arith in subst (λ k. word_in t k ≡ word_in s k) e (x.others q 0 o (some_word sound q o))

    reference : reference_to (Some p) ≡ suc p
    reference = omega (arith, x.near)

    out : (b : Bool) (o : Option ℕ) → reference_to (cond b (Some p) o) ≡ cond b (suc p) (reference_to o)
    out true o = reference
    out false o = refl

module _ {S : Shape} (law : Lawful S) {s : State} {m : Content} {ν : ℕ → ℕ} (a : Agree S s m ν) (root h : ℕ) where
  abbrev n : ℕ
  n = length m.objects

  made_agree : (t : State) → root < 64 → S.legal h ≡ true → Sound S t → (p : ℕ) → Made S s t root h p → Agree S t (with_root (with_object S m h) root (suc n)) (number_new ν n root t (Ok Granted))
  made_agree t l legal sound p x = record {
    sound = sound;
    whole = new-whole a.whole h root l law legal;
    tied = subst (λ f. Tied S (heap_graph t) (model_graph (with_root (with_object S m h) root (suc n))) f) numbers
        (tied_looks law (tied_equal law (tied_new a.tied a.whole.closed p n h root x.fresh (le-ltb n n (omega arith))) (new_equal a.whole h root l)) (made_looks law a.sound l legal x));
  }
    where
      holds : reference_to (root_in t root) ≡ suc p
      holds = (made_looks law a.sound l legal x).root root ∙ here
        where
          here : cond (eqb root root) (suc p) (reference_to (get_or s.roots root None)) ≡ suc p
          here = grind (arith, nat_tests)

      numbers : renumbered ν p n ≡ number_new ν n root t (Ok Granted)
      numbers = fun_ext (λ q. tidy q (reference_to (root_in t root)) holds)
        where
          tidy : (q r : ℕ) → r ≡ suc p → cond (eqb q p) n (ν q) ≡ cond (eqb r (suc q)) n (ν q)
          tidy q r e = grind (arith, nat_tests)

  pub new_outcome : Keeps S s (λ t r. Makes S s t root h r) (new_object S s root h) → Outcome S m ν (New root h) (altering (new_object S s root h)) (model_altering (new S m root h))
  new_outcome keep = elim (cases_Bool (ltb root 64)) [
    | inr e ↦ through (cond-false _ _ _ e) (cond-false _ _ _ e) (heard refl a)
    | inl e ↦ elim (cases_Bool (S.legal h)) [
      | inr f ↦ through (cond-true _ _ _ e ∙ cond-false _ _ _ f) (cond-true _ _ _ e ∙ cond-false _ _ _ f) (heard refl a)
      | inl f ↦ at (ltb-true root 64 e) f (taken s.regions (S.size h)) (cond-true _ _ _ e ∙ cond-true _ _ _ f) (cond-true _ _ _ e ∙ cond-true _ _ _ f)
    ]
  ]
    where
      through : {x x' : Result (Unit {0}) Refusal × State} {q q' : Result (Unit {0}) Refusal × Content} → x' ≡ x → q' ≡ q → Outcome S m ν (New root h) (altering x) (model_altering q) → Outcome S m ν (New root h) (altering x') (model_altering q')
      through {x} {x'} {q} {q'} e d o = subst (λ y. Outcome S m ν (New root h) (altering y) (model_altering q')) (sym e) (subst (λ z. Outcome S m ν (New root h) (altering x) (model_altering z)) (sym d) o)

      at : root < 64 → S.legal h ≡ true → (x : Option ℕ × Regions) → new_object S s root h ≡ new_at s root h (S.size h) x → new S m root h ≡ (Ok tt, with_root (with_object S m h) root (suc n)) → Outcome S m ν (New root h) (altering (new_object S s root h)) (model_altering (new S m root h))
      at l f (None, r) E D =
          let x = subst (Keeps S s (λ t r. Makes S s t root h r)) E keep in
          through E D (lacked refl (subst (λ t. Agree S t m ν) (sym x.effect) a))
      at l f (Some p, r) E D =
          let x = subst (Keeps S s (λ t r. Makes S s t root h r)) E keep in
          through E D (heard refl (made_agree (with_heap_root (born s.phase (laid (with_regions s r) p h (S.size h)) p (S.size h)) root (Some p)) l f x.sound x.effect.0 x.effect.1))
