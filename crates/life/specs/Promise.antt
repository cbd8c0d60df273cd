-- What a life promises of marking.
use Rattle.std.specs.Prelude.{List, Result}
use Rattle.layout.specs.Shape.{Shape}
use Rattle.memory.specs.State.{State}
use Rattle.model.specs.declared.edits.Refusal.{Refusal}
use Rattle.life.specs.declared.calls.Call.{Call}
use Rattle.life.specs.declared.calls.Answer.{Answer}
use Rattle.life.specs.Faithful.{living, outset}
use Rattle.life.specs.Snapshot.{Snapshot, scan_count}

-- after the calls, a marking of the heap t has found what the roots reached at the last granted begin, and what was made since
abbrev pub MarkedAfter : Shape → State → List Call → List (Result Answer Refusal) → State → Type 0
MarkedAfter S s cs os t =
    Snapshot S t (living S (outset s) cs).number (living S (outset s) cs).snapshot (scan_count cs os 0)
