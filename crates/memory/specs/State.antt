-- The state of a heap as the contracts have it: plain lists, numbers and tests.
use Rattle.std.specs.Prelude.{ℕ, Bool, List, None, Option, slice_index, slice_index_or, slice_set}
use Rattle.bitset.specs.Members.{members}
use Rattle.bitset.specs.Set.{joined}
use Rattle.tables.specs.declared.regions.Regions.{Regions}
use Rattle.tables.specs.Marks.{Sets, marks_of}
use Rattle.tables.specs.Cards.{CardSets, cards_of}
use Rattle.memory.specs.declared.phase.Phase.{Phase}
use Rattle.memory.specs.declared.memory.Memory.{Memory}

pub record State : Type 0 where
  -- the words of the store, and what else the store holds
  pub words : List ℕ
  pub spare : List ℕ
  -- the place of the object that each root holds
  pub roots : List (Option ℕ)
  pub regions : Regions
  -- the places at which objects start
  pub starts : ℕ → Bool
  pub marks : Sets
  pub cards : CardSets
  pub phase : Phase

-- the state of a memory, by what its store's words and spare parts are
abbrev pub view : {S L : Type 0} → (S → List ℕ) → (S → List ℕ) → Memory S L → State
view words spare m =
    record {
      words = words m.store;
      spare = spare m.store;
      roots = m.roots;
      regions = m.regions;
      starts = members m.starts;
      marks = marks_of m.marks;
      cards = cards_of m.cards;
      phase = m.phase;
    }

-- the word at an index
abbrev pub word_in : State → ℕ → ℕ
word_in s p = slice_index s.words p

-- what root k holds
abbrev pub root_in : State → ℕ → Option ℕ
root_in s k = slice_index_or s.roots k None

abbrev pub with_words : State → List ℕ → State
with_words s ws = record { words = ws; spare = s.spare; roots = s.roots; regions = s.regions; starts = s.starts; marks = s.marks; cards = s.cards; phase = s.phase }

abbrev pub with_word : State → ℕ → ℕ → State
with_word s p w = with_words s (slice_set s.words p w)

abbrev pub with_root : State → ℕ → Option ℕ → State
with_root s k v = record { words = s.words; spare = s.spare; roots = slice_set s.roots k v; regions = s.regions; starts = s.starts; marks = s.marks; cards = s.cards; phase = s.phase }

abbrev pub with_regions : State → Regions → State
with_regions s r = record { words = s.words; spare = s.spare; roots = s.roots; regions = r; starts = s.starts; marks = s.marks; cards = s.cards; phase = s.phase }

abbrev pub with_starts : State → (ℕ → Bool) → State
with_starts s f = record { words = s.words; spare = s.spare; roots = s.roots; regions = s.regions; starts = f; marks = s.marks; cards = s.cards; phase = s.phase }

-- an object starts at p, which is below 32,768
abbrev pub with_start : State → ℕ → State
with_start s p = with_starts s (joined 32768 s.starts p)

abbrev pub with_marks : State → Sets → State
with_marks s m = record { words = s.words; spare = s.spare; roots = s.roots; regions = s.regions; starts = s.starts; marks = m; cards = s.cards; phase = s.phase }

abbrev pub with_cards : State → CardSets → State
with_cards s c = record { words = s.words; spare = s.spare; roots = s.roots; regions = s.regions; starts = s.starts; marks = s.marks; cards = c; phase = s.phase }

abbrev pub with_phase : State → Phase → State
with_phase s f = record { words = s.words; spare = s.spare; roots = s.roots; regions = s.regions; starts = s.starts; marks = s.marks; cards = s.cards; phase = f }
