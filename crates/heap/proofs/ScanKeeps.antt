-- A pending object is scanned. It is pending no more, and its words are added to the weight of its region; then what its
-- references name is shaded, one position after another. Each of these is an object, so the heap stays sound.
use Rattle.std.proofs.Common.{◌≡◌, ℕ, zero, suc, ◌+◌, ◌-◌, ◌*◌, ◌/◌, ◌<◌, ◌≤◌, Bool, true, false, not, ◌&&◌, eqb, ◌⊎◌, get_or, sym, refl, ap, ◌∙◌, subst, inl, inr, true≢false, arith, length-set}
use Rattle.bitset.specs.Set.{put}
use Rattle.layout.specs.Shape.{Shape, Lawful}
use Rattle.marking.specs.Scanning.{scan_field, scan_fields, scanned as scanning}
use Rattle.memory.specs.Edits.{shaded_old}
use Rattle.memory.specs.State.{State, word_in, with_marks, with_phase}
use Rattle.memory.specs.declared.phase.Phase.TheVariants.{Marking}
use Rattle.std.proofs.lemmas.Bool.{cases_Bool, cases_eq, cond-true, cond-false, ne_eqb, false_from_ne_true}
use Rattle.std.proofs.lemmas.Bool.Decides.{nat_tests}
use Rattle.tables.specs.Marks.{Sets as Marks, shaded, finished}
use Rattle.heap.specs.Sound.{Sound, size_at, scanned}
use Rattle.heap.specs.Effects.{Outside}
use Rattle.heap.specs.Steps.{Scans}
use Rattle.heap.proofs.Geometry.{place_below}
use Rattle.heap.proofs.Shading.{Shades, shades_none, shades_same, shades_more, shaded_sound, marking-same, marking_outside}
use Rattle.heap.proofs.Totals.{held_same}
use Rattle.heap.proofs.Weights.{weight_of, scanned-starts, heavier_weighs}

-- what a reference of the object at p names, at one of the first n positions after its header
abbrev named_upto : Shape → State → ℕ → ℕ → ℕ → Type 0
named_upto S s p n q = (i : ℕ) × (i ≤ n) × (S.reference (word_in s p) i ≡ true) × (word_in s (p + i) ≡ suc q)

-- what is a member after one is taken out was one before, and is another
put_out : (f : ℕ → Bool) (p q : ℕ) → put f p false q ≡ true → (f q ≡ true) × (q ≡ p → ⊥)
put_out f p q e = grind (arith, nat_tests)

put_in : (f : ℕ → Bool) (p q : ℕ) → f q ≡ true → (q ≡ p → ⊥) → put f p false q ≡ true
put_in f p q e ne = grind (arith, nat_tests)

module _ {S : Shape} (law : Lawful S) {s : State} (h : Sound S s) (p : ℕ) (object : s.starts p ≡ true) where
  -- ---- the fields, from marks m on
  module _ (m : Marks) where
    one_more : (n q : ℕ) → named_upto S s p n q → named_upto S s p (suc n) q
    one_more n q u = (u.0, omega (arith, u.1), u.2, u.3)

    -- what is named up to a position is named there or before
    here_or_before : (n q : ℕ) → named_upto S s p (suc n) q → named_upto S s p n q ⊎ ((S.reference (word_in s p) (suc n) ≡ true) × (word_in s (p + suc n) ≡ suc q))
    here_or_before n q u = elim (cases_eq u.0 (suc n)) [
      | inl z ↦ inr (ap (S.reference (word_in s p)) (sym z) ∙ u.2, ap (λ i. word_in s (p + i)) (sym z) ∙ u.3)
      | inr z ↦ inl (u.0, omega (arith, u.1), u.2, u.3)
    ]

    -- the word at a position that holds a reference
    word-shaded : (n : ℕ) (k : Marks) → Shades (named_upto S s p n) m k → S.reference (word_in s p) (suc n) ≡ true → (w : ℕ) → word_in s (p + suc n) ≡ w
        → (l : Marks) × (shaded_old (with_marks s k) w ≡ with_marks s l) × Shades (named_upto S s p (suc n)) m l
    word-shaded n k d r zero e = (
      k,
      refl,
      shades_same d (one_more n) (λ q u. elim (here_or_before n q u) [ inl y ↦ d.all q y | inr y ↦ absurd (omega (arith, e, y.1)) ]),
    )
    word-shaded n k d r (suc v) e =
        let place = suc v - 1 in
        let is : place ≡ v = omega arith in
        let names : word_in s (p + suc n) ≡ suc place = e ∙ ap suc (sym is) in (
          shaded k place,
          cond-false (eqb (suc v) 0) _ _ (ne_eqb (suc v) 0 (λ z. omega arith)),
          shades_more d place (place_below h place (h.linked p (suc n) place object r names)) (one_more n) (suc n, omega arith, r, names)
              (λ q u. elim (here_or_before n q u) [ inl y ↦ inl y | inr y ↦ inr (omega (arith, e, y.1)) ]),
        )

    field-shaded : (n : ℕ) (k : Marks) → Shades (named_upto S s p n) m k
        → (l : Marks) × (scan_field S (with_marks s k) p (word_in s p) (suc n) ≡ with_marks s l) × Shades (named_upto S s p (suc n)) m l
    field-shaded n k d = elim (cases_Bool (S.reference (word_in s p) (suc n))) [
      | inl r ↦ let u = word-shaded n k d r (word_in s (p + suc n)) refl in (u.0, cond-true _ _ _ r ∙ u.1, u.2)
      | inr r ↦ (
        k,
        cond-false _ _ _ r,
        shades_same d (one_more n) (λ q u. elim (here_or_before n q u) [ inl y ↦ d.all q y | inr y ↦ absurd (true≢false (sym y.0 ∙ r)) ]),
      )
    ]

    fields_shaded : (n : ℕ) → (l : Marks) × (scan_fields S (with_marks s m) p (word_in s p) n ≡ with_marks s l) × Shades (named_upto S s p n) m l
    unfolding scan_fields
    fields_shaded zero = (m, refl, shades_none (named_upto S s p 0) m (λ q u. omega (arith, u.1, (law.inside (word_in s p) u.0 u.2).0)))
    fields_shaded (suc n) =
        let before = fields_shaded n in
        let next = field-shaded n before.0 before.2 in
        (next.0, ap (λ t. scan_field S t p (word_in s p) (suc n)) before.1 ∙ next.1, next.2)

  -- ---- the object
  module _ (marking : s.phase ≡ Marking) (waited : s.marks.pending p ≡ true) where
    abbrev taken : Marks
    taken = finished s.marks p (size_at S s p)

    -- it is the one object more that is marked and not pending
    taken-scanned : (q : ℕ) → (s.marks.marked q && not (put s.marks.pending p false q)) ≡ put (scanned s) p true q
    taken-scanned q = let e = h.awaited p waited in grind (arith, nat_tests)

    taken-weights : (g : ℕ) → get_or taken.weights g 0 ≡ weight_of S s (λ q. taken.marked q && not (taken.pending q)) g
    taken-weights g =
        heavier_weighs h (scanned s) (scanned-starts h) p object (rw (waited, h.awaited p waited)) s.marks.weights h.weights (h.tallied marking) g
        ∙ sym (held_same (λ q. taken.marked q && not (taken.pending q)) (put (scanned s) p true) (size_at S s) (1024 * g) 1024 taken-scanned)

    pub scan_keeps : ((q : ℕ) → q < p → s.marks.pending q ≡ false) → Sound S (scanning S s p) × Scans S s (scanning S s p) p × Outside s (scanning S s p)
    scan_keeps lowest =
        let all = fields_shaded taken (size_at S s p - 1) in
        let l = all.0 in
        let d = all.2 in
        let is : scanning S s p ≡ with_phase (with_marks s l) Marking = all.1 ∙ ap (with_phase (with_marks s l)) marking in
        subst (λ t. Sound S t × Scans S s t p × Outside s t) (sym is) (
          shaded_sound h d h.marked (λ q u. h.linked p u.0 q object u.2 u.3) (λ q e. h.awaited q (put_out s.marks.pending p q e).0)
              (length-set s.marks.weights (p / 1024) _ ∙ h.weights) taken-weights,
          record {
            same = marking-same s l;
            phase = refl;
            waited = waited;
            lowest = lowest;
            finished = false_from_ne_true _ (λ y. elim (d.no_more p y) [
              | inl u ↦ (put_out s.marks.pending p p u).1 refl
              | inr u ↦ true≢false (sym (h.awaited p waited) ∙ u.0)
            ]);
            named = λ i q r e. d.all q (i, omega (arith, (law.inside (word_in s p) i r).1), r, e);
            kept = d.kept;
            awaits = λ q e ne. d.awaits q (put_in s.marks.pending p q e ne);
            only = λ q e z. elim (d.only q e) [
              | inl u ↦ absurd (true≢false (sym u ∙ z))
              | inr u ↦ (u.0, (u.1.0, u.1.2, u.1.3))
            ];
            no_more = λ q e. elim (d.no_more q e) [ inl u ↦ inl (put_out s.marks.pending p q u) | inr u ↦ inr u.0 ];
          },
          marking_outside s l,
        )
