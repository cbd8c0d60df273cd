-- Marking, one object at a time.
use Rattle.std.specs.Prelude.{ℕ, zero, suc, ◌+◌, ◌-◌, cond, Some, None, Ok, Err, Option, Result, slice_index}
use Rattle.bitset.specs.Set.{first_of}
use Rattle.layout.specs.Shape.{Shape}
use Rattle.memory.specs.Edits.{shaded_old}
use Rattle.memory.specs.State.{State, word_in, root_in, with_marks, with_regions, with_phase}
use Rattle.memory.specs.declared.phase.Phase.TheVariants.{Marking, Marked}
use Rattle.model.specs.declared.edits.Refusal.{Refusal}
use Rattle.tables.specs.Marks.{no_marks, shaded, finished}
use Rattle.tables.specs.Regions.{with_live_at}
use Rattle.marking.specs.Admission.{admitted}
use Rattle.marking.specs.declared.admission.Step.TheVariants.{Begin, Mark}
use Rattle.marking.specs.declared.scanning.Marked.{Marked as Progress}
use Rattle.marking.specs.declared.scanning.Marked.TheVariants.{Scanned, Done}

-- the object at a place, if there is one, is marked and made pending, unless it is marked already
abbrev pub shaded_at : State → Option ℕ → State
shaded_at s None = s
shaded_at s (Some p) = with_marks s (shaded s.marks p)

abbrev pub shaded_root : State → ℕ → State
shaded_root s k = shaded_at s (root_in s k)

-- the objects of the first n roots
unfoldable pub shaded_roots : State → ℕ → State
shaded_roots s zero = s
shaded_roots s (suc n) = shaded_root (shaded_roots s n) n

-- a marking begins: what the roots hold is marked and pending, and nothing else is marked
abbrev pub begun : State → State
begun s = with_phase (shaded_roots (with_marks s no_marks) 64) Marking

abbrev pub begin_by : State → Result (Unit {0}) Refusal → Result (Unit {0}) Refusal × State
begin_by s (Ok granted) = (Ok tt, begun s)
begin_by s (Err why) = (Err why, s)

abbrev pub begin_step : State → Result (Unit {0}) Refusal × State
begin_step s = begin_by s (admitted s.phase Begin)

-- the object that the word at position i names, if that is a reference of the object at p
abbrev pub scan_field : Shape → State → ℕ → ℕ → ℕ → State
scan_field S s p h i = cond (S.reference h i) (shaded_old s (word_in s (p + i))) s

-- those of the first n positions after the header
unfoldable pub scan_fields : Shape → State → ℕ → ℕ → ℕ → State
scan_fields S s p h zero = s
scan_fields S s p h (suc n) = scan_field S (scan_fields S s p h n) p h (suc n)

-- the object at p is scanned: it is pending no more, and what it refers to is marked
abbrev pub scanned : Shape → State → ℕ → State
scanned S s p =
    scan_fields S (with_marks s (finished s.marks p (S.size (word_in s p)))) p (word_in s p) (S.size (word_in s p) - 1)

-- the live count of region g becomes what the marking has counted there
abbrev pub live_from : State → ℕ → State
live_from s g = with_regions s (with_live_at s.regions g (slice_index s.marks.weights g))

unfoldable pub lives_from : State → ℕ → State
lives_from s zero = s
lives_from s (suc n) = live_from (lives_from s n) n

-- the marking ends
abbrev pub done : State → State
done s = with_phase (lives_from s 32) Marked

abbrev pub marked_next : Shape → State → Option ℕ → Progress × State
marked_next S s None = (Done, done s)
marked_next S s (Some p) = (Scanned, scanned S s p)

-- the pending object at the lowest place is scanned, or the marking ends
abbrev pub marked_from : Shape → State → Progress × State
marked_from S s = marked_next S s (first_of s.marks.pending 0 32768)

abbrev pub mark_by : Shape → State → Result (Unit {0}) Refusal → Result Progress Refusal × State
mark_by S s (Ok granted) = (Ok (marked_from S s).0, (marked_from S s).1)
mark_by S s (Err why) = (Err why, s)

abbrev pub mark_step : Shape → State → Result Progress Refusal × State
mark_step S s = mark_by S s (admitted s.phase Mark)
