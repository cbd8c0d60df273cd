-- What is promised of marking follows from what is true of it: in the phase marked the marked objects are those reached at the
-- begin and those made since, each of the former scanned once; and when all of them are scanned, the next mark answers done.
use Rattle.std.proofs.Common.{◌≡◌, ℕ, ◌*◌, ◌/◌, ◌<◌, true, false, List, length, Ok, sym, ap, ◌∙◌, subst, inl, inr, arith}
use Rattle.bitset.proofs.Set.{first-none}
use Rattle.image.specs.Content.{Content}
use Rattle.heap.specs.Sound.{Sound, region, size_at}
use Rattle.heap.proofs.Fills.{tiles_fill, lacks_one}
use Rattle.heap.proofs.Geometry.{fill_most}
use Rattle.layout.specs.Shape.{Shape}
use Rattle.marking.specs.Admission.{admitted}
use Rattle.marking.specs.Scanning.{mark_by, mark_step, marked_next}
use Rattle.marking.specs.declared.admission.Step.TheVariants.{Mark}
use Rattle.marking.specs.declared.scanning.Marked.TheVariants.{Done as AllDone}
use Rattle.memory.specs.State.{State}
use Rattle.memory.specs.declared.phase.Phase.TheVariants.{Marking, Marked}
use Rattle.std.proofs.lemmas.Bool.{both_ways, cases_Bool, cases_lt}
use Rattle.life.specs.Snapshot.{Stale, Counts, Exactly, Snapshot}
use Rattle.life.proofs.Agree.{Agree}
use Rattle.life.proofs.Facts.{Underway, Over, Facts, FactsIn}
use Rattle.life.proofs.Lists.{filled}

module _ {S : Shape} {t : State} {m : Content} {ν : ℕ → ℕ} {m₀ : Content} {xs : List ℕ} where
  exactly : Over S t m ν m₀ xs → Exactly S t ν m₀
  exactly u = record {
    known = λ p st k. u.stands.known p k;
    marked = λ p st k. elim k [ inl r ↦ u.all p st r | inr l ↦ u.stands.made p st l ];
    there = u.stands.there;
  }

  counts : Over S t m ν m₀ xs → (n : ℕ) → length xs ≡ n → Counts S m₀ n
  counts u n e = record { list = xs; single = u.single; all = u.listed; only = u.found; number = e }

  -- an object that is not marked is stale
  stale : Over S t m ν m₀ xs → (p : ℕ) → t.starts p ≡ true → t.marks.marked p ≡ false → Stale S m₀ (ν p)
  stale u p st f = (
    elim (cases_lt (ν p) (length m₀.objects)) [ inl l ↦ l | inr l ↦ absurd (both_ways _ f (u.stands.made p st l)) ],
    λ r. both_ways _ f (u.all p st r),
  )

  -- where the live count is below the fill, some object is not marked
  pub stale_one : Sound S t → t.phase ≡ Marked → Over S t m ν m₀ xs → (g : ℕ) → (region t g).live < (region t g).fill
      → (p : ℕ) × (t.starts p ≡ true) × (p / 1024 ≡ g) × Stale S m₀ (ν p)
  stale_one h now u g l =
      let w = lacks_one t.starts t.marks.marked (size_at S t) (1024 * g) 1024 (omega (arith, h.weighed now g, tiles_fill (h.tiled g) (fill_most h g))) in
      (w.0, w.3, omega (arith, w.1, w.2), stale u w.0 w.3 w.4)

  -- when as many are scanned as were reached, all of them are, and nothing is pending
  pub none-pending : Sound S t → Underway S t m ν m₀ xs → Counts S m₀ (length xs) → (p : ℕ) → t.marks.pending p ≡ false
  none-pending h u c p = elim (cases_Bool (t.marks.pending p)) [
    | inl w ↦ (let i = filled xs c.list u.single (λ n k. c.all n (u.found n k)) (omega (arith, c.number)) (ν p) (c.all (ν p) (u.waiting p w)) in
        (u.scanned p (h.marked p (h.awaited p w)) i).1)
    | inr w ↦ w
  ]

-- where nothing is pending, a mark answers done
pub mark_ends : (S : Shape) (t : State) → t.phase ≡ Marking → ((p : ℕ) → t.marks.pending p ≡ false) → (mark_step S t).0 ≡ Ok AllDone
mark_ends S t now none =
    ap (λ x. (mark_by S t (admitted x Mark)).0) now
    ∙ ap (λ o. Ok (marked_next S t o).0) (sym (first-none t.marks.pending 0 32768 (λ k l. none k)))

pub promised_marks : {S : Shape} {t : State} {m : Content} {ν : ℕ → ℕ} → Agree S t m ν → (m₀ : Content) (xs : List ℕ) → Facts S t m ν m₀ xs
    → (n : ℕ) → length xs ≡ n → Snapshot S t ν m₀ n
promised_marks {S} {t} {m} {ν} a m₀ xs f n e = record {
  exact = λ d. exactly (over d);
  counted = λ d. counts (over d) n e;
  ending = λ d c. mark_ends S t d (none-pending a.sound (subst (λ y. FactsIn S t m ν m₀ xs y) d f) (subst (Counts S m₀) (sym e) c));
  weighed = a.sound.weighed;
  garbage = λ d g l. stale_one a.sound d (over d) g l;
}
  where
    over : t.phase ≡ Marked → Over S t m ν m₀ xs
    over d = subst (λ y. FactsIn S t m ν m₀ xs y) d f
