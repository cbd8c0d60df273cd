-- The regions of a heap, and where a new object goes.
use Rattle.std.specs.Prelude.{ℕ, ◌+◌, ◌-◌, ◌*◌, ◌/◌, ◌^◌, min, Bool, true, false, cond, ◌&&◌, List, replicate, Some, None, Option, nat_le, slice_index_or, slice_set}
use Rattle.bitset.specs.Set.{first_of, tally}
use Rattle.tables.specs.declared.region.Kind.{Kind}
use Rattle.tables.specs.declared.region.Kind.TheVariants.{Free, Open, Closed}
use Rattle.tables.specs.declared.region.Region.{Region}
use Rattle.tables.specs.declared.regions.Regions.{Regions}

-- a free region that was never opened
abbrev pub blank : Region
blank = record { kind = Free; fill = 0; live = 0; stamp = 0 }

-- the regions of a store of so many words: its whole regions, at most 32, all free
abbrev pub making : ℕ → Regions
making words = record { entries = replicate 32 blank; count = min (words / 1024) 32; last = 0; openings = 0 }

abbrev pub region_at : List Region → ℕ → Region
region_at gs g = slice_index_or gs g blank

abbrev pub with_region : Regions → ℕ → Region → Regions
with_region r g e = record { entries = slice_set r.entries g e; count = r.count; last = r.last; openings = r.openings }

abbrev pub is_free : Kind → Bool
is_free Free = true
is_free Open = false
is_free Closed = false

abbrev pub is_open : Kind → Bool
is_open Free = false
is_open Open = true
is_open Closed = false

abbrev pub is_free_at : List Region → ℕ → Bool
is_free_at gs g = is_free (region_at gs g).kind

-- how many regions are free
abbrev pub free_count : Regions → ℕ
free_count r = tally (is_free_at r.entries) 0 r.count

-- the first free region of the n from g on
abbrev pub first_free : List Region → ℕ → ℕ → Option ℕ
first_free gs g n = first_of (is_free_at gs) g n

abbrev pub or_else : Option ℕ → Option ℕ → Option ℕ
or_else (Some g) other = Some g
or_else None other = other

-- the region to open next: the first free one, counting up from the one opened last, then from 0
abbrev pub next_free : Regions → Option ℕ
next_free r = or_else (first_free r.entries r.last (r.count - r.last)) (first_free r.entries 0 (r.last - 0))

-- an open region closes
abbrev pub closed_kind : Kind → Kind
closed_kind Free = Free
closed_kind Open = Closed
closed_kind Closed = Closed

abbrev pub with_kind : Region → Kind → Region
with_kind e k = record { kind = k; fill = e.fill; live = e.live; stamp = e.stamp }

abbrev pub with_fill : Region → ℕ → Region
with_fill e n = record { kind = e.kind; fill = n; live = e.live; stamp = e.stamp }

abbrev pub with_live : Region → ℕ → Region
with_live e n = record { kind = e.kind; fill = e.fill; live = n; stamp = e.stamp }

-- the region opened last closes, if it is open
abbrev pub closing : Regions → Regions
closing r = with_region r r.last (with_kind (region_at r.entries r.last) (closed_kind (region_at r.entries r.last).kind))

-- region g opens, with its first n words used
abbrev pub opened : Regions → ℕ → ℕ → Regions
opened r g n =
    record {
      entries = slice_set r.entries g (record { kind = Open; fill = n; live = 0; stamp = r.openings });
      count = r.count;
      last = g;
      openings = min (r.openings + 1) (2 ^ 32 - 1);
    }

-- the open region closes and another opens for n words, if one is free: where they begin, and the regions then
abbrev pub opening_at : Regions → ℕ → Option ℕ → Option ℕ × Regions
opening_at r n None = (None, r)
opening_at r n (Some g) = (Some (1024 * g), opened (closing r) g n)

abbrev pub opening : Regions → ℕ → Option ℕ × Regions
opening r n = opening_at r n (next_free r)

-- whether n more words go into the open region
abbrev pub room : Regions → ℕ → Bool
room r n = is_open (region_at r.entries r.last).kind && nat_le ((region_at r.entries r.last).fill + n) 1024

-- the n words at the end of the open region
abbrev pub appended : Regions → ℕ → Option ℕ × Regions
appended r n = (
  Some (1024 * r.last + (region_at r.entries r.last).fill),
  with_region r r.last (with_fill (region_at r.entries r.last) ((region_at r.entries r.last).fill + n)),
)

-- where an object of n words goes, and the regions then: in the open region if it has room, else in another that opens if at
-- least two are free
abbrev pub taken : Regions → ℕ → Option ℕ × Regions
taken r n = cond (room r n) (appended r n) (cond (nat_le 2 (free_count r)) (opening r n) (None, r))

-- the live count of region g becomes n
abbrev pub with_live_at : Regions → ℕ → ℕ → Regions
with_live_at r g n = with_region r g (with_live (region_at r.entries g) n)

-- n more live words in region g
abbrev pub added_live : Regions → ℕ → ℕ → Regions
added_live r g n = with_region r g (with_live (region_at r.entries g) (min ((region_at r.entries g).live + n) (2 ^ 32 - 1)))
