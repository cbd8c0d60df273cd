-- A step of a marking scans the pending object at the lowest place, or ends the marking where none is pending. Then the weights
-- are the words of the marked objects, at most those in use, and they become the live counts.
use Rattle.std.proofs.Common.{◌≡◌, ℕ, zero, suc, ◌*◌, ◌<◌, ◌≤◌, false, length, get_or, Some, None, Ok, Option, sym, refl, ap, ◌∙◌, subst, inl, inr, arith, length-set}
use Rattle.bitset.specs.Set.{first_of}
use Rattle.bitset.proofs.Set.{first_of_some, first_of_none}
use Rattle.layout.specs.Shape.{Shape, Lawful}
use Rattle.marking.specs.Admission.{admitted}
use Rattle.marking.specs.Scanning.{live_from, lives_from, done, marked_next, mark_by, mark_step}
use Rattle.marking.specs.declared.admission.Step.TheVariants.{Mark}
use Rattle.memory.specs.State.{State, with_regions, with_phase}
use Rattle.memory.specs.declared.phase.Phase.{Phase}
use Rattle.memory.specs.declared.phase.Phase.TheVariants.{Idle, Marking, Marked}
use Rattle.std.proofs.lemmas.List.{get_or_past}
use Rattle.std.proofs.lemmas.Bool.{cases_lt, false_from_ne_true, true≢false}
use Rattle.tables.specs.declared.regions.Regions.{Regions}
use Rattle.tables.specs.Regions.{blank, region_at, is_free, is_free_at, with_live, with_live_at}
use Rattle.heap.specs.Sound.{Sound, region, size_at, scanned}
use Rattle.heap.specs.Effects.{Outside}
use Rattle.heap.specs.Steps.{Ends, Marks}
use Rattle.heap.proofs.Fills.{weight_within}
use Rattle.heap.proofs.Geometry.{place_below}
use Rattle.heap.proofs.Keeps.{Keeps, same_outside}
use Rattle.heap.proofs.Opening.{at_set, as_many_free}
use Rattle.heap.proofs.ScanKeeps.{scan_keeps}
use Rattle.heap.proofs.Totals.{held_same}
use Rattle.heap.proofs.Weights.{weight_of}

-- ---- the live counts

-- regions that are those of s, but the first n have their weights as live counts
record Recounted (s : State) (n : ℕ) (r : Regions) : Type 0 where
  pub many : length r.entries ≡ 32
  pub count : r.count ≡ s.regions.count
  pub last : r.last ≡ s.regions.last
  pub kinds : (g : ℕ) → (region_at r.entries g).kind ≡ (region s g).kind
  pub fills : (g : ℕ) → (region_at r.entries g).fill ≡ (region s g).fill
  pub lives : (g : ℕ) → g < n → (region_at r.entries g).live ≡ get_or s.marks.weights g 0

module _ {S : Shape} {s : State} (h : Sound S s) where
  one_recounted : (n : ℕ) (r : Regions) → n < 32 → Recounted s n r → Recounted s (suc n) (with_live_at r n (get_or s.marks.weights n 0))
  one_recounted n r l d =
      let w = get_or s.marks.weights n 0 in
      let new = with_live (region_at r.entries n) w in
      let below : n < length r.entries = omega (arith, d.many) in
      record {
        many = length-set r.entries n new ∙ d.many;
        count = d.count;
        last = d.last;
        kinds = λ g. at_set (λ e. e.kind ≡ (region s g).kind) r.entries n new g below (λ z. ap (λ j. (region_at r.entries j).kind) (sym z) ∙ d.kinds g) (λ z. d.kinds g);
        fills = λ g. at_set (λ e. e.fill ≡ (region s g).fill) r.entries n new g below (λ z. ap (λ j. (region_at r.entries j).fill) (sym z) ∙ d.fills g) (λ z. d.fills g);
        lives = λ g k.
            at_set (λ e. e.live ≡ get_or s.marks.weights g 0) r.entries n new g below (λ z. ap (λ j. get_or s.marks.weights j 0) (sym z))
            (λ z. d.lives g (omega arith));
      }

  recounted : (n : ℕ) → n ≤ 32 → (r : Regions) × (lives_from s n ≡ with_regions s r) × Recounted s n r
  unfolding lives_from
  recounted zero l = (
    s.regions,
    refl,
    record { many = h.entries; count = refl; last = refl; kinds = λ g. refl; fills = λ g. refl; lives = λ g k. absurd (omega arith) },
  )
  recounted (suc n) l =
      let before = recounted n (omega arith) in
      (with_live_at before.0 n (get_or s.marks.weights n 0), ap (λ t. live_from t n) before.1, one_recounted n before.0 l before.2)

  -- ---- the end: nothing is pending
  module _ (marking : s.phase ≡ Marking) (none : (q : ℕ) → s.marks.pending q ≡ false) (r : Regions) (d : Recounted s 32 r) where
    -- so each live count is the words of the region's marked objects
    lives_all : (g : ℕ) → (region_at r.entries g).live ≡ weight_of S s s.marks.marked g
    lives_all g = weight ∙ h.tallied marking g ∙ held_same (scanned s) s.marks.marked (size_at S s) (1024 * g) 1024 all
      where
        weight : (region_at r.entries g).live ≡ get_or s.marks.weights g 0
        weight = elim (cases_lt g 32) [
          | inl l ↦ d.lives g l
          | inr l ↦
              ap (λ e. e.live) (get_or_past r.entries g blank (omega (arith, d.many)))
              ∙ sym (get_or_past s.marks.weights g 0 (omega (arith, h.weights)))
        ]

        all : (k : ℕ) → scanned s k ≡ s.marks.marked k
        all k = let z = none k in grind arith

    frees : (g : ℕ) → is_free_at r.entries g ≡ is_free_at s.regions.entries g
    frees g = ap is_free (d.kinds g)

    within : (g : ℕ) → (region_at r.entries g).live ≤ (region s g).fill
    within g = omega (arith, lives_all g, weight_within h s.marks.marked h.marked g)

    ended_sound : Sound S (with_phase (with_regions s r) Marked)
    ended_sound =
        record {
          rooms = h.rooms;
          entries = d.many;
          whole = d.count ∙ h.whole;
          tiled = λ g. rw (d.fills g) (h.tiled g);
          headed = h.headed;
          rooted = h.rooted;
          linked = h.linked;
          spared = λ l. omega (arith, d.count, h.spared (omega (arith, d.count)), as_many_free s.regions r d.count frees);
          vacant = λ g y.
              let v = h.vacant g (sym (frees g) ∙ y) in
              record { unused = d.fills g ∙ v.unused; lifeless = omega (arith, within g, v.unused); forgetful = v.forgetful; clean = v.clean; forgotten = v.forgotten };
          used = λ g y. let u = h.used g (sym (frees g) ∙ y) in (omega (arith, d.count), omega (arith, d.fills g), omega (arith, d.fills g));
          opened = λ g e. h.opened g (sym (d.kinds g) ∙ e) ∙ sym d.last;
          latest = λ l. omega (arith, d.last, d.count, h.latest (omega (arith, d.count)));
          carded = h.carded;
          marked = h.marked;
          awaited = h.awaited;
          settled = λ not. none;
          unmarked = λ idle p. absurd (grind arith);
          weights = h.weights;
          tallied = λ e g. absurd (grind arith);
          living = λ g. omega (arith, within g, d.fills g);
          weighed = λ e. lives_all;
        }

    ended : Ends S s (with_phase (with_regions s r) Marked)
    ended =
        record {
          same = record { words = refl; starts = refl; roots = refl; fills = d.fills };
          phase = refl;
          none = none;
          marked = λ q. refl;
          pending = none;
          live = lives_all;
        }

    ended_outside : Outside s (with_phase (with_regions s r) Marked)
    ended_outside = record { words = λ k l. refl; spare = refl; count = d.count }

  pub end_keeps : s.phase ≡ Marking → ((q : ℕ) → s.marks.pending q ≡ false) → Sound S (done s) × Ends S s (done s) × Outside s (done s)
  end_keeps marking none =
      let all = recounted 32 (omega arith) in
      let is : done s ≡ with_phase (with_regions s all.0) Marked = ap (λ t. with_phase t Marked) all.1 in
      subst (λ t. Sound S t × Ends S s t × Outside s t) (sym is) (
        ended_sound marking none all.0 all.2,
        ended marking none all.0 all.2,
        ended_outside marking none all.0 all.2,
      )

-- ---- the step

pub mark_keeps : (S : Shape) → Lawful S → (s : State) → Sound S s → Keeps S s (λ t r. Marks S s t r) (mark_step S s)
mark_keeps S law s h = go s.phase refl
  where
    -- what is pending lies below 32,768, where the search looks
    none-pending : first_of s.marks.pending 0 32768 ≡ None → (q : ℕ) → s.marks.pending q ≡ false
    none-pending e q = false_from_ne_true _ (λ y.
        true≢false (sym y ∙ first_of_none s.marks.pending 0 32768 q e (omega arith) (omega (arith, place_below h q (h.marked q (h.awaited q y))))))

    next : s.phase ≡ Marking → (o : Option ℕ) → first_of s.marks.pending 0 32768 ≡ o
        → Keeps S s (λ t r. Marks S s t r) (Ok (marked_next S s o).0, (marked_next S s o).1)
    next marking None e = let all = end_keeps h marking (none-pending e) in record { sound = all.0; effect = all.1; outside = all.2 }
    next marking (Some p) e =
        let first = first_of_some s.marks.pending 0 32768 p e in
        let all = scan_keeps law h p (h.marked p (h.awaited p first.2)) marking first.2 (λ q l. first.3 q (omega arith) l) in
        record { sound = all.0; effect = (p, all.1); outside = all.2 }

    go : (f : Phase) → s.phase ≡ f → Keeps S s (λ t r. Marks S s t r) (mark_by S s (admitted f Mark))
    go Idle e = record { sound = h; effect = refl; outside = same_outside s }
    go Marking e = next e (first_of s.marks.pending 0 32768) refl
    go Marked e = record { sound = h; effect = refl; outside = same_outside s }
