-- A marking begins. Nothing is marked at first, so every weight is 0; then what the 64 roots hold is shaded, one root after
-- another. Each of these is an object, so the heap is sound.
use Rattle.std.proofs.Common.{◌≡◌, ℕ, zero, suc, ◌*◌, ◌<◌, Bool, true, not, ◌&&◌, get_or, Some, None, Ok, Err, Option, Result, sym, refl, ap, ◌∙◌, subst, inl, inr, arith}
use mathlib.Core.Bool.{false≢true}
use Rattle.std.proofs.lemmas.Option.{none-some}
use Rattle.layout.specs.Shape.{Shape}
use Rattle.marking.specs.Admission.{admitted}
use Rattle.marking.specs.Scanning.{shaded_at, shaded_roots, begun, begin_by, begin_step}
use Rattle.marking.specs.declared.admission.Step.TheVariants.{Begin}
use Rattle.memory.specs.State.{State, root_in, with_marks, with_phase}
use Rattle.memory.specs.declared.phase.Phase.TheVariants.{Marking}
use Rattle.model.specs.declared.edits.Refusal.{Refusal}
use Rattle.std.proofs.lemmas.List.{get_or_past}
use Rattle.std.proofs.lemmas.Bool.{cases_eq, cases_lt}
use Rattle.tables.specs.Marks.{Sets as Marks, no_marks, shaded}
use Rattle.heap.specs.Sound.{Sound, size_at}
use Rattle.heap.specs.Steps.{Begins}
use Rattle.heap.specs.Tiles.{total, held_by}
use Rattle.heap.proofs.Geometry.{place_below}
use Rattle.heap.proofs.Keeps.{Keeps, same_outside}
use Rattle.heap.proofs.Opening.{same_everywhere}
use Rattle.heap.proofs.Shading.{Shades, shades_none, shades_same, shades_more, shades_among, shaded_sound, marking-same, marking_outside}
use Rattle.heap.proofs.Fills.{held_none}

-- what one of the first n roots holds
abbrev held_below : State → ℕ → ℕ → Type 0
held_below s n q = (k : ℕ) × (k < n) × (root_in s k ≡ Some q)

module _ {S : Shape} {s : State} (h : Sound S s) where
  -- one root more
  root-shaded : (n : ℕ) (m : Marks) → Shades (held_below s n) no_marks m → (o : Option ℕ) → root_in s n ≡ o
      → (k : Marks) × (shaded_at (with_marks s m) o ≡ with_marks s k) × Shades (held_below s (suc n)) no_marks k
  root-shaded n m d None e = (
    m,
    refl,
    shades_same d (λ q u. (u.0, omega (arith, u.1), u.2)) (λ q u. elim (cases_eq u.0 n) [
      | inl z ↦ absurd (none-some q (sym e ∙ ap (root_in s) (sym z) ∙ u.2))
      | inr z ↦ d.all q (u.0, omega (arith, u.1), u.2)
    ]),
  )
  root-shaded n m d (Some p) e = (
    shaded m p,
    refl,
    shades_more d p (place_below h p (h.rooted n p e)) (λ q u. (u.0, omega (arith, u.1), u.2)) (n, omega arith, e) (λ q u. elim (cases_eq u.0 n) [
      | inl z ↦ inr (let same : Some q ≡ Some p = sym u.2 ∙ ap (root_in s) z ∙ e in cc)
      | inr z ↦ inl (u.0, omega (arith, u.1), u.2)
    ]),
  )

  roots-shaded : (n : ℕ) → (m : Marks) × (shaded_roots (with_marks s no_marks) n ≡ with_marks s m) × Shades (held_below s n) no_marks m
  unfolding shaded_roots
  roots-shaded zero = (no_marks, refl, shades_none (held_below s 0) no_marks (λ q u. omega (arith, u.1)))
  roots-shaded (suc n) =
      let before = roots-shaded n in
      let next = root-shaded n before.0 before.2 (root_in s n) refl in
      (next.0, ap (λ t. shaded_at t (root_in t n)) before.1 ∙ next.1, next.2)

  -- there are 64 roots
  all-roots : (k q : ℕ) → root_in s k ≡ Some q → held_below s 64 q
  all-roots k q e = elim (cases_lt k 64) [
    | inl l ↦ (k, l, e)
    | inr l ↦ absurd (none-some q (sym (get_or_past s.roots k None (omega (arith, h.rooms))) ∙ e))
  ]

  no_weight : (g : ℕ) → get_or {A = ℕ} no_marks.weights g 0 ≡ total (held_by (λ p. no_marks.marked p && not (no_marks.pending p)) (size_at S s)) (1024 * g) 1024
  no_weight g = same_everywhere {A = ℕ} 32 g 0 ∙ sym (held_none (λ p. no_marks.marked p && not (no_marks.pending p)) (size_at S s) (1024 * g) 1024 (λ k. refl))

  begun_keeps : Keeps S s (λ t r. Begins s t r) (Ok tt, begun s)
  begun_keeps =
      let all = roots-shaded 64 in
      let m = all.0 in
      let d = all.2 in
      let is : begun s ≡ with_phase (with_marks s m) Marking = ap (λ t. with_phase t Marking) all.1 in
      let pending : (p : ℕ) → m.marked p ≡ true → m.pending p ≡ true = λ p e. elim (d.only p e) [ inl u ↦ absurd (false≢true u) | inr u ↦ u.0 ] in
      let among : (p : ℕ) → m.pending p ≡ true → m.marked p ≡ true = shades_among d (λ q e. e) in
      subst (λ t. Keeps S s (λ t r. Begins s t r) (Ok tt, t)) (sym is)
      (record {
        sound = shaded_sound h d (λ p e. absurd (false≢true e)) (λ p u. h.rooted u.0 p u.2) (λ p e. e) refl no_weight;
        effect =
            record {
              same = marking-same s m;
              phase = refl;
              held = λ k p e. d.all p (all-roots k p e);
              only = λ p e. elim (d.only p e) [ inl u ↦ absurd (false≢true u) | inr u ↦ (u.1.0, u.1.2) ];
              pending = λ p. both (m.pending p) (m.marked p) (among p) (pending p);
            };
        outside = marking_outside s m;
      })
    where
      both : (a b : Bool) → (a ≡ true → b ≡ true) → (b ≡ true → a ≡ true) → a ≡ b
      both a b x y = grind arith

pub begin_keeps : (S : Shape) (s : State) → Sound S s → Keeps S s (λ t r. Begins s t r) (begin_step s)
begin_keeps S s h = go (admitted s.phase Begin)
  where
    go : (r : Result (Unit {0}) Refusal) → Keeps S s (λ t r. Begins s t r) (begin_by s r)
    go (Ok granted) = begun_keeps h
    go (Err why) = record { sound = h; effect = refl; outside = same_outside s }
