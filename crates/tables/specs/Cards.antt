-- The cards of a heap: which are dirty, and which each region's table has. Cards are below 512.
use Rattle.std.specs.Prelude.{ℕ, Bool, true, false, cond, ◌&&◌, List, Some, None, Option, ◌==◌, nat_lt, slice_get}
use Rattle.bitset.specs.declared.bits.BitSet.{BitSet}
use Rattle.bitset.specs.Members.{members}
use Rattle.bitset.specs.Set.{empty, joined, put}
use Rattle.tables.specs.declared.cards.Cards.{Cards}

pub record CardSets : Type 0 where
  pub dirty : ℕ → Bool
  -- whether the table of a region has a card
  pub table : ℕ → ℕ → Bool

-- the cards in a table; there are none where there is no table
abbrev pub in_table : Option (BitSet 8) → ℕ → Bool
in_table None d = false
in_table (Some t) d = members t d

-- the table of region g among the tables of all regions
abbrev pub table_in : List (BitSet 8) → ℕ → ℕ → Bool
table_in ts g d = in_table (slice_get ts g) d

abbrev pub cards_of : Cards → CardSets
cards_of c = record { dirty = members c.dirty; table = table_in c.remembered }

abbrev pub clean_cards : CardSets
clean_cards = record { dirty = empty; table = λ g. empty }

abbrev pub dirtied : CardSets → ℕ → CardSets
dirtied c d = record { dirty = joined 512 c.dirty d; table = c.table }

abbrev pub cleaned : CardSets → ℕ → CardSets
cleaned c d = record { dirty = put c.dirty d false; table = c.table }

-- card d is entered in the table of region g
unfoldable pub entered : (ℕ → ℕ → Bool) → ℕ → ℕ → ℕ → ℕ → Bool
entered t g d h k = cond (h == g && (k == d && (nat_lt g 32 && nat_lt d 512))) true (t h k)

abbrev pub remembering : CardSets → ℕ → ℕ → CardSets
remembering c g d = record { dirty = c.dirty; table = entered c.table g d }
