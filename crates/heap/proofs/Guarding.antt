-- What storing a reference does to the marks. While marking, the object that the old reference names is shaded: it is marked,
-- and pending if it was not marked before. That is an object, so its place is below the bound of the sets. No other mark
-- changes, and none at all in the other phases. So the heap stays sound.
use Rattle.std.proofs.Common.{◌≡◌, ℕ, zero, suc, ◌-◌, true, eqb, sym, refl, ap, ◌∙◌, subst, inl, inr, true≢false, arith}
use Rattle.layout.specs.Shape.{Shape}
use Rattle.memory.specs.State.{State, with_marks, with_phase}
use Rattle.memory.specs.Edits.{guarded}
use Rattle.memory.specs.declared.phase.Phase.{Phase}
use Rattle.memory.specs.declared.phase.Phase.TheVariants.{Idle, Marking, Marked}
use Rattle.std.proofs.lemmas.Bool.{cond-false, ne_eqb}
use Rattle.tables.specs.Marks.{Sets as Marks, shaded}
use Rattle.heap.specs.Sound.{Sound}
use Rattle.heap.specs.Effects.{Guards}
use Rattle.heap.proofs.Geometry.{place_below}
use Rattle.heap.proofs.Shading.{one_shaded, shaded_sound}

-- nothing need change where the marking is not under way, the reference is nil, or what it names is marked
pub same_guards : (s : State) (old : ℕ) → (s.phase ≡ Marking → (q : ℕ) → old ≡ suc q → s.marks.marked q ≡ true) → Guards s s old
same_guards s old named =
    record {
      phase = refl;
      named = named;
      kept = λ q y. y;
      awaits = λ q y. y;
      only = λ q y n. absurd (true≢false (sym y ∙ n));
      no_more = λ q y. inl y;
    }

-- while marking, an object is shaded
pub shade_sound : {S : Shape} {s : State} → Sound S s → s.phase ≡ Marking → (q : ℕ) → s.starts q ≡ true → Sound S (with_marks s (shaded s.marks q))
shade_sound {S} {s} h marking q object =
    subst (λ f. Sound S (with_phase (with_marks s (shaded s.marks q)) f)) (sym marking)
    (shaded_sound h (one_shaded s.marks q (place_below h q object)) h.marked (λ p e. ap s.starts e ∙ object) h.awaited h.weights (h.tallied marking))

-- the object at q, which the old reference names, is shaded
pub shade_guards : {S : Shape} {s : State} → Sound S s → (old q : ℕ) → old ≡ suc q → s.starts q ≡ true → Guards s (with_marks s (shaded s.marks q)) old
shade_guards {S} {s} h old q is object =
    let d = one_shaded s.marks q (place_below h q object) in
    record {
      phase = refl;
      named = λ marking k z. d.all k (omega arith);
      kept = d.kept;
      awaits = d.awaits;
      only = λ k y n. elim (d.only k y) [ inl z ↦ absurd (true≢false (sym z ∙ n)) | inr z ↦ (omega (arith, z.1), z.0) ];
      no_more = λ k y. elim (d.no_more k y) [ inl z ↦ inl z | inr z ↦ inr z.0 ];
    }

-- so it is while marking, if the reference names anything; in the other phases nothing changes
pub guarded_keeps : {S : Shape} {s : State} → Sound S s → (f : Phase) → s.phase ≡ f → (old : ℕ) → ((q : ℕ) → old ≡ suc q → s.starts q ≡ true)
    → (m : Marks) × (guarded f s old ≡ with_marks s m) × Sound S (with_marks s m) × Guards s (with_marks s m) old
guarded_keeps {S} {s} h Idle e old names = (s.marks, refl, h, same_guards s old (λ marking. absurd (grind arith)))
guarded_keeps {S} {s} h Marking e zero names = (s.marks, refl, h, same_guards s 0 (λ marking q z. absurd (omega arith)))
guarded_keeps {S} {s} h Marking e (suc q) names =
    let one : suc q ≡ suc (suc q - 1) = omega arith in
    let object = names (suc q - 1) one in (
      shaded s.marks (suc q - 1),
      cond-false (eqb (suc q) 0) _ _ (ne_eqb (suc q) 0 (λ z. omega arith)),
      shade_sound h e (suc q - 1) object,
      shade_guards h (suc q) (suc q - 1) one object,
    )
guarded_keeps {S} {s} h Marked e old names = (s.marks, refl, h, same_guards s old (λ marking. absurd (grind arith)))
