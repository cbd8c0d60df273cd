-- Where a new object goes there is room for it: at the end of the used words of a region of the store, which is then the only
-- open one. That is so in the open region if the object fits, and in a free region that opens, which has no used words.
use Rattle.std.proofs.Common.{◌≡◌, ℕ, ◌+◌, ◌*◌, ◌<◌, ◌≤◌, true, false, List, length, set, sym, refl, ap, ◌∙◌, arith, length-set}
use Rattle.layout.specs.Shape.{Shape}
use Rattle.memory.specs.State.{State}
use Rattle.std.proofs.lemmas.Bool.{true≢false}
use Rattle.tables.specs.declared.region.Kind.{Kind}
use Rattle.tables.specs.declared.region.Kind.TheVariants.{Free, Open, Closed}
use Rattle.tables.specs.declared.region.Region.{Region}
use Rattle.tables.specs.declared.regions.Regions.{Regions}
use Rattle.tables.specs.Regions.{region_at, is_free, is_open, is_free_at, free_count, closed_kind, with_kind, with_fill, closing, opened, appended}
use Rattle.heap.specs.Sound.{Sound, region}
use Rattle.heap.proofs.Geometry.{few_regions}
use Rattle.heap.proofs.Opening.{at_set, as_many_free, one_fewer_free}

-- n words from p on were taken, which made the regions r of those of s
pub record Room (s : State) (r : Regions) (p n : ℕ) : Type 0 where
  pub entries : length r.entries ≡ 32
  pub count : r.count ≡ s.regions.count
  -- they stand at the end of the used words of the region opened last
  pub stored : r.last < s.regions.count
  pub place : p ≡ 1024 * r.last + (region s r.last).fill
  pub fits : (region s r.last).fill + n ≤ 1024
  -- which has that many more words in use; in the others and in the live counts nothing changes
  pub grown : (region_at r.entries r.last).fill ≡ (region s r.last).fill + n
  pub fills : (k : ℕ) → (k ≡ r.last → ⊥) → (region_at r.entries k).fill ≡ (region s k).fill
  pub lives : (k : ℕ) → (region_at r.entries k).live ≡ (region s k).live
  -- it is in use, no other is open, and the others are free or not as they were
  pub busy : is_free_at r.entries r.last ≡ false
  pub only : (k : ℕ) → (region_at r.entries k).kind ≡ Open → k ≡ r.last
  pub frees : (k : ℕ) → (k ≡ r.last → ⊥) → is_free_at r.entries k ≡ is_free_at s.regions.entries k
  pub spared : 1 ≤ free_count r

open_not_free : (k : Kind) → is_open k ≡ true → is_free k ≡ false
open_not_free Free e = absurd (true≢false (sym e))
open_not_free Open e = refl
open_not_free Closed e = refl

closed_as_free : (k : Kind) → is_free (closed_kind k) ≡ is_free k
closed_as_free Free = refl
closed_as_free Open = refl
closed_as_free Closed = refl

closed_not_open : (k : Kind) → closed_kind k ≡ Open → ⊥
closed_not_open Free e = grind arith
closed_not_open Open e = grind arith
closed_not_open Closed e = grind arith

module _ {S : Shape} {s : State} (d : Sound S s) (n : ℕ) where
  -- in the open region
  pub room_here : is_open (region s s.regions.last).kind ≡ true → (region s s.regions.last).fill + n ≤ 1024
      → Room s (appended s.regions n).1 (1024 * s.regions.last + (region s s.regions.last).fill) n
  room_here y l =
      let o : ℕ = s.regions.last in
      let gs : List Region = s.regions.entries in
      let new : Region = with_fill (region_at gs o) ((region_at gs o).fill + n) in
      let busy : is_free_at gs o ≡ false = open_not_free (region_at gs o).kind y in
      let stored = (d.used o busy).0 in
      let lo : o < length gs = omega (arith, d.entries, few_regions d) in
      let kinds : (k : ℕ) → (region_at (set gs o new) k).kind ≡ (region_at gs k).kind =
      λ k. at_set (λ x. x.kind ≡ (region_at gs k).kind) gs o new k lo (λ z. ap (λ j. (region_at gs j).kind) (sym z)) (λ z. refl) in
      record {
        entries = length-set gs o new ∙ d.entries;
        count = refl;
        stored = stored;
        place = refl;
        fits = l;
        grown = at_set (λ x. x.fill ≡ (region_at gs o).fill + n) gs o new o lo (λ z. refl) (λ z. absurd (z refl));
        fills = λ k ne. at_set (λ x. x.fill ≡ (region_at gs k).fill) gs o new k lo (λ z. absurd (ne z)) (λ z. refl);
        lives = λ k. at_set (λ x. x.live ≡ (region_at gs k).live) gs o new k lo (λ z. ap (λ j. (region_at gs j).live) (sym z)) (λ z. refl);
        busy = ap is_free (kinds o) ∙ busy;
        only = λ k e. d.opened k (sym (kinds k) ∙ e);
        frees = λ k ne. ap is_free (kinds k);
        spared = omega (arith, as_many_free s.regions (appended s.regions n).1 refl (λ k. ap is_free (kinds k)), d.spared (omega arith));
      }

  -- in a free region that opens
  pub room-there : (g : ℕ) → g < s.regions.count → is_free_at s.regions.entries g ≡ true → 2 ≤ free_count s.regions → n ≤ 1024
      → Room s (opened (closing s.regions) g n) (1024 * g) n
  room-there g stored free two l =
      let o : ℕ = s.regions.last in
      let gs : List Region = s.regions.entries in
      let shut : Region = with_kind (region_at gs o) (closed_kind (region_at gs o).kind) in
      let new : Region = record { kind = Open; fill = n; live = 0; stamp = s.regions.openings } in
      let hs : List Region = set gs o shut in
      let empty = d.vacant g free in
      let lo : o < length gs = omega (arith, d.entries, few_regions d, d.latest (omega arith)) in
      let many : length hs ≡ 32 = length-set gs o shut ∙ d.entries in
      let lg : g < length hs = omega (arith, few_regions d) in
      let frees : (k : ℕ) → (k ≡ g → ⊥) → is_free_at (set hs g new) k ≡ is_free_at gs k =
      λ k ne. at_set (λ x. is_free x.kind ≡ is_free_at gs k) hs g new k lg (λ z. absurd (ne z))
      (λ z. at_set (λ x. is_free x.kind ≡ is_free_at gs k) gs o shut k lo
      (λ y. closed_as_free (region_at gs o).kind ∙ ap (is_free_at gs) (sym y)) (λ y. refl)) in
      let busy : is_free_at (set hs g new) g ≡ false = at_set (λ x. is_free x.kind ≡ false) hs g new g lg (λ z. refl) (λ z. absurd (z refl)) in
      record {
        entries = length-set hs g new ∙ many;
        count = refl;
        stored = stored;
        place = omega (arith, empty.unused);
        fits = omega (arith, empty.unused);
        grown = at_set (λ x. x.fill ≡ (region_at gs g).fill + n) hs g new g lg (λ z. omega (arith, empty.unused)) (λ z. absurd (z refl));
        fills = λ k ne. at_set (λ x. x.fill ≡ (region_at gs k).fill) hs g new k lg (λ z. absurd (ne z))
            (λ z. at_set (λ x. x.fill ≡ (region_at gs k).fill) gs o shut k lo (λ y. ap (λ j. (region_at gs j).fill) (sym y)) (λ y. refl));
        lives = λ k. at_set (λ x. x.live ≡ (region_at gs k).live) hs g new k lg (λ z. sym (ap (λ j. (region_at gs j).live) z ∙ empty.lifeless))
            (λ z. at_set (λ x. x.live ≡ (region_at gs k).live) gs o shut k lo (λ y. ap (λ j. (region_at gs j).live) (sym y)) (λ y. refl));
        busy = busy;
        only = λ k. at_set (λ x. x.kind ≡ Open → k ≡ g) hs g new k lg (λ z e. z)
            (λ z. at_set (λ x. x.kind ≡ Open → k ≡ g) gs o shut k lo
            (λ y e. absurd (closed_not_open (region_at gs o).kind e)) (λ y e. absurd (y (d.opened k e))));
        frees = frees;
        spared = omega (arith, one_fewer_free s.regions (opened (closing s.regions) g n) g refl stored free busy frees);
      }
