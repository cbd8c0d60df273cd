-- Making a heap, and making objects in it.
use Rattle.std.specs.Prelude.{ℕ, zero, suc, ◌+◌, ◌-◌, cond, List, length, replicate, Some, None, Ok, Err, Option, Result, nat_lt, slice_set}
use Rattle.bitset.specs.Set.{empty}
use Rattle.layout.specs.Shape.{Shape}
use Rattle.model.specs.declared.edits.Refusal.{Refusal}
use Rattle.model.specs.declared.edits.Refusal.TheVariants.{RootAbove63, IllegalHeader, NoSpace}
use Rattle.tables.specs.declared.regions.Regions.{Regions}
use Rattle.tables.specs.Regions.{making as making_regions, taken, added_live}
use Rattle.tables.specs.Marks.{no_marks, made_marked}
use Rattle.tables.specs.Cards.{clean_cards}
use Rattle.memory.specs.declared.phase.Phase.{Phase}
use Rattle.memory.specs.declared.phase.Phase.TheVariants.{Idle, Marking, Marked}
use Rattle.memory.specs.State.{State, with_words, with_root, with_regions, with_start, with_marks}

-- a heap without objects on the words of a store
abbrev pub making : List ℕ → List ℕ → State
making words spare =
    record {
      words = words;
      spare = spare;
      roots = replicate 64 None;
      regions = making_regions (length words);
      starts = empty;
      marks = no_marks;
      cards = clean_cards;
      phase = Idle;
    }

-- n words of zero from p on
unfoldable pub zeroed : List ℕ → ℕ → ℕ → List ℕ
zeroed ws p zero = ws
zeroed ws p (suc n) = slice_set (zeroed ws p n) (p + n) 0

-- an object of n words at p: the header and a body of zeros
abbrev pub laid : State → ℕ → ℕ → ℕ → State
laid s p h n = with_start (with_words s (zeroed (slice_set s.words p h) (p + 1) (n - 1))) p

-- the new object of n words at p is marked, not pending, and counted live
abbrev pub born_marked : State → ℕ → ℕ → State
born_marked s p n = with_regions (with_marks s (made_marked s.marks p n)) (added_live s.regions s.regions.last n)

-- so it is in marking and in marked
abbrev pub born : Phase → State → ℕ → ℕ → State
born Idle s p n = s
born Marking s p n = born_marked s p n
born Marked s p n = born_marked s p n

-- the object is made at the place that was found
abbrev pub new_at : State → ℕ → ℕ → ℕ → Option ℕ × Regions → Result (Unit {0}) Refusal × State
new_at s root h n (None, r) = (Err NoSpace, with_regions s r)
new_at s root h n (Some p, r) = (Ok tt, with_root (born s.phase (laid (with_regions s r) p h n) p n) root (Some p))

abbrev pub new_object : Shape → State → ℕ → ℕ → Result (Unit {0}) Refusal × State
new_object S s root h =
    cond (nat_lt root 64)
    (cond (S.legal h) (new_at s root h (S.size h) (taken s.regions (S.size h))) (Err IllegalHeader, s))
    (Err RootAbove63, s)
