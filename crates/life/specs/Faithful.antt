-- A heap shows its planner what the heap that never collects would show.
use Rattle.std.specs.Prelude.{◌≡◌, ℕ, suc, Bool, true, false, cond, List, [], ◌∷◌, length, Some, None, Ok, Err, Option, Result, ◌==◌}
use Rattle.heap.specs.Effects.{graph_of as heap_graph}
use Rattle.image.specs.Content.{Content}
use Rattle.layout.specs.Shape.{Shape}
use Rattle.bitset.specs.Set.{first_of}
use Rattle.marking.specs.Refining.{refine_step}
use Rattle.marking.specs.Scanning.{begin_step, mark_step}
use Rattle.marking.specs.declared.scanning.Marked.{Marked as Progress}
use Rattle.marking.specs.declared.scanning.Marked.TheVariants.{Scanned as OneScanned, Done as AllDone}
use Rattle.memory.specs.State.{State, root_in}
use Rattle.memory.specs.Edits.{reference_to}
use Rattle.model.specs.Edits.{start, graph_of as model_graph, edited as model_edited}
use Rattle.model.specs.Tied.{Tied}
use Rattle.model.specs.declared.edits.Edit.{Edit}
use Rattle.model.specs.declared.edits.Edit.TheVariants.{New, Set, Get, Put, Peek, Copy, Clear, Same, Head}
use Rattle.model.specs.declared.edits.Refusal.{Refusal}
use Rattle.model.specs.declared.edits.Refusal.TheVariants.{RootAbove63, IllegalHeader, WorkListShort, OutputShort, RootNil, WrongPosition, NoSpace, AlreadyMarking, NotMarking, NotMarked}
use Rattle.model.specs.declared.edits.Reply.{Reply}
use Rattle.model.specs.declared.edits.Reply.TheVariants.{Granted, Word, Same as IsSame}
use Rattle.life.specs.declared.calls.Call.{Call}
use Rattle.life.specs.declared.calls.Call.TheVariants.{Edit as Asked, Begin, Mark, Refine}
use Rattle.life.specs.declared.calls.Answer.{Answer}
use Rattle.life.specs.declared.calls.Answer.TheVariants.{Edit as Replied, Begun, Mark as ByMark, Refine as ByRefine}
use Rattle.life.specs.Serving.{edited}

-- whether an edit was refused for want of space
abbrev pub is_no_space : Refusal → Bool
is_no_space RootAbove63 = false
is_no_space IllegalHeader = false
is_no_space WorkListShort = false
is_no_space OutputShort = false
is_no_space RootNil = false
is_no_space WrongPosition = false
is_no_space NoSpace = true
is_no_space AlreadyMarking = false
is_no_space NotMarking = false
is_no_space NotMarked = false

abbrev pub lacking : Result Reply Refusal → Bool
lacking (Ok reply) = false
lacking (Err why) = is_no_space why

-- the edit that the heap that never collects hears of a call: none of one that is no edit, or was refused for want of space
abbrev pub heard_of : Call → Result Answer Refusal → List Edit → List Edit
heard_of (Asked e) (Ok (Replied r)) es = e ∷ es
heard_of (Asked e) (Ok Begun) es = es
heard_of (Asked e) (Ok (ByMark x)) es = es
heard_of (Asked e) (Ok (ByRefine x)) es = es
heard_of (Asked e) (Err why) es = cond (is_no_space why) es (e ∷ es)
heard_of Begin o es = es
heard_of Mark o es = es
heard_of Refine o es = es

abbrev pub heard : List Call → List (Result Answer Refusal) → List Edit
heard [] os = []
heard (c ∷ cs) [] = []
heard (c ∷ cs) (o ∷ os) = heard_of c o (heard cs os)

-- what the planner was answered to these
abbrev pub seen_of : Call → Result Answer Refusal → List (Result Reply Refusal) → List (Result Reply Refusal)
seen_of (Asked e) (Ok (Replied r)) rs = Ok r ∷ rs
seen_of (Asked e) (Ok Begun) rs = rs
seen_of (Asked e) (Ok (ByMark x)) rs = rs
seen_of (Asked e) (Ok (ByRefine x)) rs = rs
seen_of (Asked e) (Err why) rs = cond (is_no_space why) rs (Err why ∷ rs)
seen_of Begin o rs = rs
seen_of Mark o rs = rs
seen_of Refine o rs = rs

abbrev pub seen : List Call → List (Result Answer Refusal) → List (Result Reply Refusal)
seen [] os = []
seen (c ∷ cs) [] = []
seen (c ∷ cs) (o ∷ os) = seen_of c o (seen cs os)

-- what the heap that never collects answers to edits, and what it holds after them
abbrev pub replies : Shape → Content → List Edit → List (Result Reply Refusal)
replies S m [] = []
replies S m (e ∷ es) = (model_edited S m e).0 ∷ replies S (model_edited S m e).1 es

abbrev pub told : Shape → Content → List Edit → Content
told S m [] = m
told S m (e ∷ es) = told S (model_edited S m e).1 es

-- the answers are those of the heap that never collects
abbrev pub Faithful : Shape → List Call → List (Result Answer Refusal) → Type 0
Faithful S cs os = seen cs os ≡ replies S start (heard cs os)

-- the number, less 1, that the object at each place bears: where an edit was a new that was granted, the object that the root
-- then holds bears the next
abbrev pub number_new : (ℕ → ℕ) → ℕ → ℕ → State → Result Reply Refusal → ℕ → ℕ
number_new ν n root t (Ok Granted) p = cond (reference_to (root_in t root) == suc p) n (ν p)
number_new ν n root t (Ok (Word w)) p = ν p
number_new ν n root t (Ok (IsSame b)) p = ν p
number_new ν n root t (Err why) p = ν p

abbrev pub number_on : (ℕ → ℕ) → ℕ → Edit → Result Reply Refusal × State → ℕ → ℕ
number_on ν n (New root h) p = number_new ν n root p.1 p.0
number_on ν n (Set i position k) p = ν
number_on ν n (Get i position k) p = ν
number_on ν n (Put i position word) p = ν
number_on ν n (Peek i position) p = ν
number_on ν n (Copy i k) p = ν
number_on ν n (Clear i) p = ν
number_on ν n (Same i k) p = ν
number_on ν n (Head i) p = ν

-- a heap, the heap that never collects beside it, the numbers there of the objects at each place, that heap as it stood at the
-- last granted begin, and the numbers of the objects scanned since, the latest first
pub record Both : Type 0 where
  pub heap : State
  pub model : Content
  pub number : ℕ → ℕ
  pub snapshot : Content
  pub scans : List ℕ

-- an edit that the heap answered; the other hears it, unless it was refused for want of space
abbrev pub hearing : Shape → Both → Edit → Result Reply Refusal × State → Both
hearing S b e p =
    cond (lacking p.0)
    (record { heap = p.1; model = b.model; number = b.number; snapshot = b.snapshot; scans = b.scans })
    (record {
      heap = p.1;
      model = (model_edited S b.model e).1;
      number = number_on b.number (length b.model.objects) e p;
      snapshot = b.snapshot;
      scans = b.scans;
    })

-- a begin that the heap answered: if it is granted, the snapshot is taken
abbrev pub beginning : Both → Result (Unit {0}) Refusal × State → Both
beginning b (Ok done, t) = record { heap = t; model = b.model; number = b.number; snapshot = b.model; scans = [] }
beginning b (Err why, t) = record { heap = t; model = b.model; number = b.number; snapshot = b.snapshot; scans = b.scans }

-- the object that a mark scans: the pending one at the lowest place
abbrev pub scans_on : Both → Option ℕ → List ℕ
scans_on b None = b.scans
scans_on b (Some p) = b.number p ∷ b.scans

abbrev pub marking : Both → Result Progress Refusal × State → Both
marking b (Ok OneScanned, t) = record { heap = t; model = b.model; number = b.number; snapshot = b.snapshot; scans = scans_on b (first_of b.heap.marks.pending 0 32768) }
marking b (Ok AllDone, t) = record { heap = t; model = b.model; number = b.number; snapshot = b.snapshot; scans = b.scans }
marking b (Err why, t) = record { heap = t; model = b.model; number = b.number; snapshot = b.snapshot; scans = b.scans }

abbrev pub serving : Shape → Both → Call → Both
serving S b (Asked e) = hearing S b e (edited S b.heap e)
serving S b Begin = beginning b (begin_step b.heap)
serving S b Mark = marking b (mark_step S b.heap)
serving S b Refine = record { heap = (refine_step S b.heap).1; model = b.model; number = b.number; snapshot = b.snapshot; scans = b.scans }

abbrev pub living : Shape → Both → List Call → Both
living S b [] = b
living S b (c ∷ cs) = living S (serving S b c) cs

-- both at the start
abbrev pub outset : State → Both
outset s = record { heap = s; model = start; number = λ p. 0; snapshot = start; scans = [] }

-- the heap after the calls is tied to the heap that heard the same edits, by the numbers that its objects bear
abbrev pub TiedAfter : Shape → State → List Call → List (Result Answer Refusal) → State → Type 0
TiedAfter S s cs os t =
    Tied S (heap_graph t) (model_graph (told S start (heard cs os))) (living S (outset s) cs).number
