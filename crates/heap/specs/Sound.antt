-- What is true of every heap: calls find it so and leave it so.
use Rattle.std.specs.Prelude.{◌≡◌, ℕ, suc, ◌+◌, ◌*◌, ◌/◌, ◌<◌, ◌≤◌, min, Bool, true, false, not, ◌&&◌, ◌⊎◌, length, Some, ◌≢◌, slice_index}
use Rattle.layout.specs.Shape.{Shape}
use Rattle.memory.specs.State.{State, word_in, root_in}
use Rattle.memory.specs.declared.phase.Phase.TheVariants.{Idle, Marking, Marked}
use Rattle.tables.specs.declared.region.Region.{Region}
use Rattle.tables.specs.declared.region.Kind.TheVariants.{Open}
use Rattle.tables.specs.Regions.{region_at, is_free_at, free_count}
use Rattle.heap.specs.Tiles.{Tiles, total, held_by}

-- region g
abbrev pub region : State → ℕ → Region
region s g = region_at s.regions.entries g

-- the words of an object with its header at p
abbrev pub size_at : Shape → State → ℕ → ℕ
size_at S s p = S.size (word_in s p)

-- marked and not pending
abbrev pub scanned : State → ℕ → Bool
scanned s p = s.marks.marked p && not (s.marks.pending p)

-- a region without objects: nothing is used or live, its table is empty, its cards are clean and in no table
pub record Vacant (s : State) (g : ℕ) : Type 0 where
  pub unused : (region s g).fill ≡ 0
  pub lifeless : (region s g).live ≡ 0
  pub forgetful : (d : ℕ) → s.cards.table g d ≡ false
  pub clean : (d : ℕ) → d / 16 ≡ g → s.cards.dirty d ≡ false
  pub forgotten : (other d : ℕ) → d / 16 ≡ g → s.cards.table other d ≡ false

pub record Sound (S : Shape) (s : State) : Type 0 where
  -- 64 roots, entries for 32 regions, and as many regions as the store has whole ones, at most 32
  pub rooms : length s.roots ≡ 64
  pub entries : length s.regions.entries ≡ 32
  pub whole : s.regions.count ≡ min (length s.words / 1024) 32
  -- the words below each fill are tiled by objects, and all headers are legal
  pub tiled : (g : ℕ) → Tiles s.starts (size_at S s) (1024 * g) (region s g).fill
  pub headed : (p : ℕ) → s.starts p ≡ true → S.legal (word_in s p) ≡ true
  -- each root and each reference of each object, marked or not, is nil or names an object
  pub rooted : (k p : ℕ) → root_in s k ≡ Some p → s.starts p ≡ true
  pub linked : (p i q : ℕ) → s.starts p ≡ true → S.reference (word_in s p) i ≡ true → word_in s (p + i) ≡ suc q → s.starts q ≡ true
  -- one region at least is free, if there is any; a free one is vacant, and any other is one of the store's and in use
  pub spared : 1 ≤ s.regions.count → 1 ≤ free_count s.regions
  pub vacant : (g : ℕ) → is_free_at s.regions.entries g ≡ true → Vacant s g
  pub used : (g : ℕ) → is_free_at s.regions.entries g ≡ false → (g < s.regions.count) × (1 ≤ (region s g).fill) × ((region s g).fill ≤ 1024)
  -- at most one is open, the one opened last; that is one of the store's, if there is any
  pub opened : (g : ℕ) → (region s g).kind ≡ Open → g ≡ s.regions.last
  pub latest : 1 ≤ s.regions.count → s.regions.last < s.regions.count
  -- a reference into another region has its object in a dirty card, or in a card of that region's table
  pub carded : (p i q : ℕ) → s.starts p ≡ true → S.reference (word_in s p) i ≡ true → word_in s (p + i) ≡ suc q
      → (p / 1024 ≢ q / 1024) → (s.cards.dirty (p / 64) ≡ true) ⊎ (s.cards.table (q / 1024) (p / 64) ≡ true)
  -- what is marked is an object, what is pending is marked; nothing is pending but in marking, and nothing marked in idle
  pub marked : (p : ℕ) → s.marks.marked p ≡ true → s.starts p ≡ true
  pub awaited : (p : ℕ) → s.marks.pending p ≡ true → s.marks.marked p ≡ true
  pub settled : (s.phase ≢ Marking) → (p : ℕ) → s.marks.pending p ≡ false
  pub unmarked : s.phase ≡ Idle → (p : ℕ) → s.marks.marked p ≡ false
  -- in marking each weight is the words of the region's objects that are marked and not pending
  pub weights : length s.marks.weights ≡ 32
  pub tallied : s.phase ≡ Marking → (g : ℕ) → slice_index s.marks.weights g ≡ total (held_by (scanned s) (size_at S s)) (1024 * g) 1024
  -- no live count is above its fill; in marked each is the words of the region's marked objects
  pub living : (g : ℕ) → (region s g).live ≤ (region s g).fill
  pub weighed : s.phase ≡ Marked → (g : ℕ) → (region s g).live ≡ total (held_by s.marks.marked (size_at S s)) (1024 * g) 1024
