-- What a heap answers to calls, and what it then holds.
use Rattle.std.specs.Prelude.{◌≡◌, ℕ, Bool, List, [], ◌∷◌, ◌++◌, length, drop, Ok, Result}
use Rattle.layout.specs.Shape.{Shape}
use Rattle.marking.specs.Refining.{refine_step}
use Rattle.marking.specs.Scanning.{begin_step, mark_step}
use Rattle.marking.specs.declared.scanning.Marked.{Marked as Progress}
use Rattle.marking.specs.declared.refining.Refined.{Refined as Refinement}
use Rattle.memory.specs.State.{State}
use Rattle.memory.specs.Edits.{set_reference, get_reference, put_word, peek_word, copy_root, clear_root, same_roots, head_of}
use Rattle.memory.specs.Objects.{new_object}
use Rattle.model.specs.Edits.{map_answer}
use Rattle.model.specs.declared.edits.Edit.{Edit}
use Rattle.model.specs.declared.edits.Edit.TheVariants.{New, Set, Get, Put, Peek, Copy, Clear, Same, Head}
use Rattle.model.specs.declared.edits.Refusal.{Refusal}
use Rattle.model.specs.declared.edits.Reply.{Reply}
use Rattle.model.specs.declared.edits.Reply.TheVariants.{Granted, Word, Same as IsSame}
use Rattle.life.specs.declared.calls.Call.{Call}
use Rattle.life.specs.declared.calls.Call.TheVariants.{Edit as Asked, Begin, Mark, Refine}
use Rattle.life.specs.declared.calls.Answer.{Answer}
use Rattle.life.specs.declared.calls.Answer.TheVariants.{Edit as Replied, Begun, Mark as ByMark, Refine as ByRefine}

abbrev pub granted : Result (Unit {0}) Refusal → Result Reply Refusal
granted r = map_answer (λ done. Granted) r

abbrev pub word_answered : Result ℕ Refusal → Result Reply Refusal
word_answered r = map_answer Word r

abbrev pub same_answered : Result Bool Refusal → Result Reply Refusal
same_answered r = map_answer IsSame r

-- the reply to an edit that alters the heap
abbrev pub altering : Result (Unit {0}) Refusal × State → Result Reply Refusal × State
altering p = (granted p.0, p.1)

-- what an edit is answered, and the heap after it
abbrev pub edited : Shape → State → Edit → Result Reply Refusal × State
edited S s (New root header) = altering (new_object S s root header)
edited S s (Set i position k) = altering (set_reference S s i position k)
edited S s (Get i position k) = altering (get_reference S s i position k)
edited S s (Put i position word) = altering (put_word S s i position word)
edited S s (Peek i position) = (word_answered (peek_word S s i position), s)
edited S s (Copy i k) = altering (copy_root s i k)
edited S s (Clear i) = altering (clear_root s i)
edited S s (Same i k) = (same_answered (same_roots s i k), s)
edited S s (Head i) = (word_answered (head_of s i), s)

abbrev pub edit_answer : Result Reply Refusal → Result Answer Refusal
edit_answer r = map_answer Replied r

abbrev pub replied : Result Reply Refusal × State → Result Answer Refusal × State
replied p = (edit_answer p.0, p.1)

abbrev pub begun_answer : Result (Unit {0}) Refusal → Result Answer Refusal
begun_answer r = map_answer (λ done. Begun) r

abbrev pub mark_answer : Result Progress Refusal → Result Answer Refusal
mark_answer r = map_answer ByMark r

-- a refine is never refused
abbrev pub refine_answer : Refinement → Result Answer Refusal
refine_answer refined = Ok (ByRefine refined)

-- what a call is answered, and the heap after it
abbrev pub served : Shape → State → Call → Result Answer Refusal × State
served S s (Asked edit) = replied (edited S s edit)
served S s Begin = (begun_answer (begin_step s).0, (begin_step s).1)
served S s Mark = (mark_answer (mark_step S s).0, (mark_step S s).1)
served S s Refine = (refine_answer (refine_step S s).0, (refine_step S s).1)

-- what calls are answered, one after another, and the heap after them
abbrev pub answers : Shape → State → List Call → List (Result Answer Refusal)
answers S s [] = []
answers S s (c ∷ cs) = (served S s c).0 ∷ answers S (served S s c).1 cs

abbrev pub after : Shape → State → List Call → State
after S s [] = s
after S s (c ∷ cs) = after S (served S s c).1 cs

-- a heap s has served the calls: the answers stand in their places, later places are as before, and t is the heap then
abbrev pub Lived : Shape → State → List Call → List (Result Answer Refusal) → List (Result Answer Refusal) → State → Type 0
Lived S s cs before os t = (os ≡ answers S s cs ++ drop (length cs) before) × (t ≡ after S s cs)
