-- A heap stays sound when a new object is marked, not pending, and its words are added to the live count and to the weight of its
-- region: what is marked in the region, and what of that is not pending, then has that many words more, and they are in use.
-- No other mark and no other live count changes.
use Rattle.std.proofs.Common.{◌≡◌, ℕ, ◌+◌, ◌-◌, ◌*◌, ◌/◌, ◌^◌, ◌<◌, ◌≤◌, min, true, false, not, ◌&&◌, List, length, get_or, set, sym, refl, ap, ◌∙◌, subst, ap₂, inl, inr, true≢false, arith, length-set}
use Rattle.bitset.specs.Set.{put}
use Rattle.layout.specs.Shape.{Shape}
use Rattle.memory.specs.State.{State}
use Rattle.memory.specs.Objects.{born_marked}
use Rattle.memory.specs.declared.phase.Phase.TheVariants.{Idle}
use Rattle.std.proofs.lemmas.Bool.{cases_eq, false_from_ne_true, cond-true, cond-false, eq-eqb, ne_eqb}
use Rattle.tables.specs.Marks.{heavier}
use Rattle.tables.specs.declared.region.Region.{Region}
use Rattle.tables.specs.Regions.{region_at, is_free, is_free_at, with_live, added_live}
use Rattle.heap.specs.Sound.{Sound, region, size_at, scanned}
use Rattle.heap.specs.Effects.{Births}
use Rattle.heap.proofs.Geometry.{fill_most, in_use, in_store, few_regions, place_below}
use Rattle.heap.proofs.Joined.{joined-put, joined_has, joined_keeps, joined_is, joined-other}
use Rattle.heap.proofs.Opening.{at_set, as_many_free}
use Rattle.heap.proofs.Totals.{held_same}
use Rattle.heap.proofs.Weights.{weight_of, weight_here, weight_there, scanned-starts, heavier_weighs}

-- the object at p of n words, in the region opened last
module _ {S : Shape} {s : State} (d : Sound S s) (p n : ℕ) (is : s.starts p ≡ true) (not_yet : s.marks.marked p ≡ false) (size : size_at S s p ≡ n)
    (here : p / 1024 ≡ s.regions.last) (room : (region s s.regions.last).live + n ≤ (region s s.regions.last).fill) (busy : s.phase ≡ Idle → ⊥) where
  abbrev o : ℕ
  o = s.regions.last

  abbrev gs : List Region
  gs = s.regions.entries

  abbrev new : Region
  new = with_live (region_at gs o) (min ((region_at gs o).live + n) (2 ^ 32 - 1))

  below : o < length gs
  below = omega (arith, d.entries, few_regions d, in_store d p is)

  kinds : (k : ℕ) → (region_at (set gs o new) k).kind ≡ (region_at gs k).kind
  kinds k = at_set (λ x. x.kind ≡ (region_at gs k).kind) gs o new k below (λ z. ap (λ j. (region_at gs j).kind) (sym z)) (λ z. refl)

  fills : (k : ℕ) → (region_at (set gs o new) k).fill ≡ (region_at gs k).fill
  fills k = at_set (λ x. x.fill ≡ (region_at gs k).fill) gs o new k below (λ z. ap (λ j. (region_at gs j).fill) (sym z)) (λ z. refl)

  live_here : (k : ℕ) → k ≡ o → (region_at (set gs o new) k).live ≡ (region_at gs k).live + n
  live_here k z =
      at_set (λ x. x.live ≡ (region_at gs k).live + n) gs o new k below
      (λ e. omega (arith, room, fill_most d o, ap (λ j. (region_at gs j).live) z)) (λ ne. absurd (ne z))

  live-there : (k : ℕ) → (k ≡ o → ⊥) → (region_at (set gs o new) k).live ≡ (region_at gs k).live
  live-there k ne = at_set (λ x. x.live ≡ (region_at gs k).live) gs o new k below (λ z. absurd (ne z)) (λ z. refl)

  frees : (k : ℕ) → is_free_at (set gs o new) k ≡ is_free_at gs k
  frees k = ap is_free (kinds k)

  pending_not : s.marks.pending p ≡ false
  pending_not = false_from_ne_true _ (λ y. true≢false (sym (d.awaited p y) ∙ not_yet))

  -- it is marked and not pending then
  one_more : (k : ℕ) → scanned (born_marked s p n) k ≡ put (scanned s) p true k
  one_more k = elim (cases_eq k p) [
    | inl z ↦
        ap (scanned (born_marked s p n)) z ∙ ap₂ (λ a b. a && not b) (joined_has 32768 s.marks.marked p (place_below d p is)) pending_not
        ∙ sym (cond-true _ true (scanned s k) (eq-eqb k p z))
    | inr z ↦ ap (λ b. b && not (s.marks.pending k)) (joined-other 32768 s.marks.marked p k z) ∙ sym (cond-false _ true (scanned s k) (ne_eqb k p z))
  ]

  pub born_births : Births s (born_marked s p n) p n
  born_births =
      record {
        phase = refl;
        marked = λ not_idle. joined_has 32768 s.marks.marked p (place_below d p is);
        others = λ q ne. joined-other 32768 s.marks.marked p q ne;
        pending = λ q. refl;
        counted = λ not_idle. live_here (p / 1024) here;
      }

  pub born_sound : Sound S (born_marked s p n)
  born_sound =
      record {
        rooms = d.rooms;
        entries = length-set gs o new ∙ d.entries;
        whole = d.whole;
        tiled = λ g. rw (fills g) (d.tiled g);
        headed = d.headed;
        rooted = d.rooted;
        linked = d.linked;
        spared = λ l. omega (arith, d.spared l, as_many_free s.regions (added_live s.regions o n) refl frees);
        vacant = λ g y.
            let f = sym (frees g) ∙ y in
            let v = d.vacant g f in
            let ne : g ≡ o → ⊥ = λ z. true≢false (sym f ∙ ap (is_free_at gs) (z ∙ sym here) ∙ in_use d p is) in
            record { unused = fills g ∙ v.unused; lifeless = live-there g ne ∙ v.lifeless; forgetful = v.forgetful; clean = v.clean; forgotten = v.forgotten };
        used = λ g y. let u = d.used g (sym (frees g) ∙ y) in (u.0, omega (arith, fills g), omega (arith, fills g));
        opened = λ g e. d.opened g (sym (kinds g) ∙ e);
        latest = d.latest;
        carded = d.carded;
        marked = λ q y. elim (joined_is 32768 s.marks.marked p q y) [ inl z ↦ ap s.starts z ∙ is | inr z ↦ d.marked q z ];
        awaited = λ q y. joined_keeps 32768 s.marks.marked p q (place_below d p is) (d.awaited q y);
        settled = d.settled;
        unmarked = λ e. absurd (busy e);
        weights = length-set s.marks.weights (p / 1024) _ ∙ d.weights;
        tallied = λ e g.
            subst (λ k. get_or (heavier s.marks.weights (p / 1024) k) g 0 ≡ weight_of S s (put (scanned s) p true) g) size
            (heavier_weighs d (scanned s) (scanned-starts d) p is (ap (λ b. b && not (s.marks.pending p)) not_yet) s.marks.weights d.weights (d.tallied e) g)
            ∙ sym (held_same (scanned (born_marked s p n)) (put (scanned s) p true) (size_at S s) (1024 * g) 1024 one_more);
        living = λ g. elim (cases_eq g o) [
          | inl z ↦ omega (arith, live_here g z, fills g, room, ap (λ j. (region_at gs j).live) z, ap (λ j. (region_at gs j).fill) z)
          | inr z ↦ omega (arith, live-there g z, fills g, d.living g)
        ];
        weighed = λ e g.
            subst (λ f. (region_at (set gs o new) g).live ≡ weight_of S s f g) (sym (joined-put 32768 s.marks.marked p (place_below d p is)))
            (elim (cases_eq g o) [
              | inl z ↦ omega (arith, live_here g z, d.weighed e g, weight_here S s s.marks.marked p not_yet g (z ∙ sym here))
              | inr z ↦ live-there g z ∙ d.weighed e g ∙ sym (weight_there S s s.marks.marked p g (λ y. z (y ∙ here)))
            ]);
      }
