-- Which step of the collector each phase admits, and by which refusal it turns the others away.
use Rattle.memory.specs.declared.phase.Phase.{Phase}
use Rattle.memory.specs.declared.phase.Phase.TheVariants.{Idle, Marking, Marked}
use Rattle.model.specs.declared.edits.Refusal.{Refusal}
use Rattle.model.specs.declared.edits.Refusal.TheVariants.{AlreadyMarking, NotMarking, NotMarked}
use Rattle.std.specs.Prelude.{Ok, Err, Result}
use Rattle.marking.specs.declared.admission.Step.{Step}
use Rattle.marking.specs.declared.admission.Step.TheVariants.{Begin, Mark, Collect}

abbrev pub admitted : Phase → Step → Result (Unit {0}) Refusal
admitted Idle Begin = Ok tt
admitted Idle Mark = Err NotMarking
admitted Idle Collect = Err NotMarked
admitted Marking Begin = Err AlreadyMarking
admitted Marking Mark = Ok tt
admitted Marking Collect = Err NotMarked
admitted Marked Begin = Ok tt
admitted Marked Mark = Err NotMarking
admitted Marked Collect = Ok tt
