-- The texts of calls, of answers, and of the lines that have both.
use Rattle.std.specs.Prelude.{ℕ, cond, List, ◌++◌, Ok, Err, Result, codes, decimal}
use Rattle.marking.specs.declared.refining.Refined.TheVariants.{Refined as OneRefined, Clean as AllClean}
use Rattle.marking.specs.declared.scanning.Marked.TheVariants.{Scanned as OneScanned, Done as AllDone}
use Rattle.model.specs.Refusals.{number_of}
use Rattle.model.specs.declared.edits.Edit.{Edit}
use Rattle.model.specs.declared.edits.Edit.TheVariants.{New, Set, Get, Put, Peek, Copy, Clear, Same, Head}
use Rattle.model.specs.declared.edits.Refusal.{Refusal}
use Rattle.model.specs.declared.edits.Reply.{Reply}
use Rattle.model.specs.declared.edits.Reply.TheVariants.{Granted, Word, Same as IsSame}
use Rattle.life.specs.declared.calls.Call.{Call}
use Rattle.life.specs.declared.calls.Call.TheVariants.{Edit as Asked, Begin, Mark, Refine}
use Rattle.life.specs.declared.calls.Answer.{Answer}
use Rattle.life.specs.declared.calls.Answer.TheVariants.{Edit as Replied, Begun, Mark as ByMark, Refine as ByRefine}

-- a name and numbers, with a space before each number
abbrev pub with_one : List ℕ → ℕ → List ℕ
with_one name a = name ++ decimal a

abbrev pub with_two : List ℕ → ℕ → ℕ → List ℕ
with_two name a b = name ++ (decimal a ++ (codes " " ++ decimal b))

abbrev pub with_three : List ℕ → ℕ → ℕ → ℕ → List ℕ
with_three name a b c = name ++ (decimal a ++ (codes " " ++ (decimal b ++ (codes " " ++ decimal c))))

abbrev pub edit_text : Edit → List ℕ
edit_text (New root header) = with_two (codes "new ") root header
edit_text (Set i position k) = with_three (codes "set ") i position k
edit_text (Get i position k) = with_three (codes "get ") i position k
edit_text (Put i position word) = with_three (codes "put ") i position word
edit_text (Peek i position) = with_two (codes "peek ") i position
edit_text (Copy i k) = with_two (codes "copy ") i k
edit_text (Clear i) = with_one (codes "clear ") i
edit_text (Same i k) = with_two (codes "same ") i k
edit_text (Head i) = with_one (codes "head ") i

abbrev pub reply_text : Reply → List ℕ
reply_text Granted = codes "granted"
reply_text (Word w) = decimal w
reply_text (IsSame b) = cond b (codes "yes") (codes "no")

abbrev pub call_text : Call → List ℕ
call_text (Asked e) = edit_text e
call_text Begin = codes "begin"
call_text Mark = codes "mark"
call_text Refine = codes "refine"

abbrev pub answer_text : Result Answer Refusal → List ℕ
answer_text (Ok (Replied r)) = reply_text r
answer_text (Ok Begun) = codes "begun"
answer_text (Ok (ByMark OneScanned)) = codes "scanned"
answer_text (Ok (ByMark AllDone)) = codes "done"
answer_text (Ok (ByRefine OneRefined)) = codes "refined"
answer_text (Ok (ByRefine AllClean)) = codes "clean"
answer_text (Err why) = codes "refused " ++ decimal (number_of why)

-- what was asked, a colon, and what was answered
abbrev pub line_of : Call → Result Answer Refusal → List ℕ
line_of c a = call_text c ++ (codes ": " ++ answer_text a)
