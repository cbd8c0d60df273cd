-- The marks of objects: which are marked, and which of these still wait for their scan. Places are below 32,768. A marking
-- counts for each region the words of its objects that are marked and not pending.
use Rattle.std.specs.Prelude.{ℕ, ◌+◌, ◌-◌, ◌/◌, ◌^◌, min, Bool, false, cond, List, replicate, slice_index, slice_set}
use Rattle.bitset.specs.Members.{members}
use Rattle.bitset.specs.Set.{empty, joined, put}
use Rattle.tables.specs.declared.marks.Marks.{Marks}

pub record Sets : Type 0 where
  pub marked : ℕ → Bool
  pub pending : ℕ → Bool
  pub weights : List ℕ

abbrev pub marks_of : Marks → Sets
marks_of m = record { marked = members m.marked; pending = members m.pending; weights = m.weights }

abbrev pub no_marks : Sets
no_marks = record { marked = empty; pending = empty; weights = replicate 32 0 }

-- n more words in region g
abbrev pub heavier : List ℕ → ℕ → ℕ → List ℕ
heavier ws g n = slice_set ws g (min (slice_index ws g + n) (2 ^ 32 - 1))

-- the object of n words at p is marked
abbrev pub made_marked : Sets → ℕ → ℕ → Sets
made_marked s p n = record { marked = joined 32768 s.marked p; pending = s.pending; weights = heavier s.weights (p / 1024) n }

-- the object at p is marked and pending, unless it was marked before
abbrev pub shaded : Sets → ℕ → Sets
shaded s p =
    cond (s.marked p) s
    (record { marked = joined 32768 s.marked p; pending = joined 32768 s.pending p; weights = s.weights })

-- the object of n words at p is scanned
abbrev pub finished : Sets → ℕ → ℕ → Sets
finished s p n = record { marked = s.marked; pending = put s.pending p false; weights = heavier s.weights (p / 1024) n }
