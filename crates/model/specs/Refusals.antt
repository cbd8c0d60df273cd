-- The numbers of refusals.
use Rattle.std.specs.Prelude.{ℕ}
use Rattle.model.specs.declared.edits.Refusal.{Refusal}
use Rattle.model.specs.declared.edits.Refusal.TheVariants.{RootAbove63, IllegalHeader, WorkListShort, OutputShort, RootNil, WrongPosition, NoSpace, AlreadyMarking, NotMarking, NotMarked}

abbrev pub number_of : Refusal → ℕ
number_of RootAbove63 = 1
number_of IllegalHeader = 2
number_of WorkListShort = 5
number_of OutputShort = 6
number_of RootNil = 31
number_of WrongPosition = 32
number_of NoSpace = 33
number_of AlreadyMarking = 34
number_of NotMarking = 35
number_of NotMarked = 36
