-- Calls and answers as words.
use Rattle.std.specs.Prelude.{ℕ, cond, Some, None, Ok, Err, Option, Result, ◌==◌}
use Rattle.marking.specs.declared.refining.Refined.TheVariants.{Refined as OneRefined, Clean as AllClean}
use Rattle.marking.specs.declared.scanning.Marked.TheVariants.{Scanned as OneScanned, Done as AllDone}
use Rattle.model.specs.Refusals.{number_of}
use Rattle.model.specs.declared.edits.Edit.TheVariants.{New, Set, Get, Put, Peek, Copy, Clear, Same, Head}
use Rattle.model.specs.declared.edits.Refusal.{Refusal}
use Rattle.model.specs.declared.edits.Reply.TheVariants.{Granted, Word, Same as IsSame}
use Rattle.life.specs.declared.calls.Call.{Call}
use Rattle.life.specs.declared.calls.Call.TheVariants.{Edit as Asked, Begin, Mark, Refine}
use Rattle.life.specs.declared.calls.Answer.{Answer}
use Rattle.life.specs.declared.calls.Answer.TheVariants.{Edit as Replied, Begun, Mark as ByMark, Refine as ByRefine}

-- the call that a code and three words stand for
abbrev pub decoded : ℕ → ℕ → ℕ → ℕ → Option Call
decoded code a b c =
    cond (code == 0) (Some (Asked (New a b)))
    (cond (code == 1) (Some (Asked (Set a b c)))
    (cond (code == 2) (Some (Asked (Get a b c)))
    (cond (code == 3) (Some (Asked (Put a b c)))
    (cond (code == 4) (Some (Asked (Peek a b)))
    (cond (code == 5) (Some (Asked (Copy a b)))
    (cond (code == 6) (Some (Asked (Clear a)))
    (cond (code == 7) (Some (Asked (Same a b)))
    (cond (code == 8) (Some (Asked (Head a)))
    (cond (code == 9) (Some Begin)
    (cond (code == 10) (Some Mark)
    (cond (code == 11) (Some Refine) None)))))))))))

-- the kind of an answer, and its value
abbrev pub kind_of : Result Answer Refusal → ℕ
kind_of (Ok (Replied Granted)) = 0
kind_of (Ok (Replied (Word w))) = 1
kind_of (Ok (Replied (IsSame b))) = 2
kind_of (Ok Begun) = 0
kind_of (Ok (ByMark OneScanned)) = 4
kind_of (Ok (ByMark AllDone)) = 5
kind_of (Ok (ByRefine OneRefined)) = 6
kind_of (Ok (ByRefine AllClean)) = 7
kind_of (Err why) = 3

abbrev pub value_of : Result Answer Refusal → ℕ
value_of (Ok (Replied Granted)) = 0
value_of (Ok (Replied (Word w))) = w
value_of (Ok (Replied (IsSame b))) = cond b 1 0
value_of (Ok Begun) = 0
value_of (Ok (ByMark x)) = 0
value_of (Ok (ByRefine x)) = 0
value_of (Err why) = number_of why
