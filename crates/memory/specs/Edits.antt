-- The edits of objects that roots hold.
use Rattle.std.specs.Prelude.{ℕ, ◌+◌, ◌-◌, ◌/◌, ◌^◌, min, Bool, cond, ◌&&◌, Some, None, Ok, Err, Option, Result, ◌==◌, nat_lt}
use Rattle.layout.specs.Shape.{Shape, plain}
use Rattle.model.specs.declared.edits.Refusal.{Refusal}
use Rattle.model.specs.declared.edits.Refusal.TheVariants.{RootAbove63, RootNil, WrongPosition}
use Rattle.tables.specs.Marks.{shaded}
use Rattle.tables.specs.Cards.{dirtied}
use Rattle.memory.specs.declared.phase.Phase.{Phase}
use Rattle.memory.specs.declared.phase.Phase.TheVariants.{Idle, Marking, Marked}
use Rattle.memory.specs.State.{State, word_in, root_in, with_word, with_root, with_marks, with_cards}

-- the reference of the object at a place, place + 1, or nil, 0
abbrev pub reference_to : Option ℕ → ℕ
reference_to None = 0
reference_to (Some p) = min (p + 1) (2 ^ 32 - 1)

-- the place that a reference names
abbrev pub named_by : ℕ → Option ℕ
named_by w = cond (w == 0) None (Some (w - 1))

-- the object that an old reference names is marked and made pending, unless it is marked already
abbrev pub shaded_old : State → ℕ → State
shaded_old s old = cond (old == 0) s (with_marks s (shaded s.marks (old - 1)))

-- so it is while marking
abbrev pub guarded : Phase → State → ℕ → State
guarded Idle s old = s
guarded Marking s old = shaded_old s old
guarded Marked s old = s

-- the card of the object at p becomes dirty, if a new reference of it names an object of another region
abbrev pub noted : State → ℕ → ℕ → State
noted s p w = cond (w == 0) s (cond ((w - 1) / 1024 == p / 1024) s (with_cards s (dirtied s.cards (p / 64))))

-- a reference is stored at a position of the object at p
abbrev pub storing : State → ℕ → ℕ → ℕ → State
storing s p position w = noted (with_word (guarded s.phase s (word_in s (p + position))) (p + position) w) p w

abbrev pub set_at : Shape → State → Option ℕ → ℕ → ℕ → Result (Unit {0}) Refusal × State
set_at S s None position w = (Err RootNil, s)
set_at S s (Some p) position w =
    cond (S.reference (word_in s p) position) (Ok tt, storing s p position w) (Err WrongPosition, s)

abbrev pub set_reference : Shape → State → ℕ → ℕ → ℕ → Result (Unit {0}) Refusal × State
set_reference S s i position k =
    cond (nat_lt i 64 && nat_lt k 64) (set_at S s (root_in s i) position (reference_to (root_in s k))) (Err RootAbove63, s)

abbrev pub get_at : Shape → State → Option ℕ → ℕ → ℕ → Result (Unit {0}) Refusal × State
get_at S s None position k = (Err RootNil, s)
get_at S s (Some p) position k =
    cond (S.reference (word_in s p) position)
    (Ok tt, with_root s k (named_by (word_in s (p + position))))
    (Err WrongPosition, s)

abbrev pub get_reference : Shape → State → ℕ → ℕ → ℕ → Result (Unit {0}) Refusal × State
get_reference S s i position k = cond (nat_lt i 64 && nat_lt k 64) (get_at S s (root_in s i) position k) (Err RootAbove63, s)

abbrev pub put_at : Shape → State → Option ℕ → ℕ → ℕ → Result (Unit {0}) Refusal × State
put_at S s None position word = (Err RootNil, s)
put_at S s (Some p) position word =
    cond (plain S (word_in s p) position) (Ok tt, with_word s (p + position) word) (Err WrongPosition, s)

abbrev pub put_word : Shape → State → ℕ → ℕ → ℕ → Result (Unit {0}) Refusal × State
put_word S s i position word = cond (nat_lt i 64) (put_at S s (root_in s i) position word) (Err RootAbove63, s)

abbrev pub peek_at : Shape → State → Option ℕ → ℕ → Result ℕ Refusal
peek_at S s None position = Err RootNil
peek_at S s (Some p) position = cond (plain S (word_in s p) position) (Ok (word_in s (p + position))) (Err WrongPosition)

abbrev pub peek_word : Shape → State → ℕ → ℕ → Result ℕ Refusal
peek_word S s i position = cond (nat_lt i 64) (peek_at S s (root_in s i) position) (Err RootAbove63)

abbrev pub copy_root : State → ℕ → ℕ → Result (Unit {0}) Refusal × State
copy_root s i k = cond (nat_lt i 64 && nat_lt k 64) (Ok tt, with_root s k (root_in s i)) (Err RootAbove63, s)

abbrev pub clear_root : State → ℕ → Result (Unit {0}) Refusal × State
clear_root s i = cond (nat_lt i 64) (Ok tt, with_root s i None) (Err RootAbove63, s)

abbrev pub same_roots : State → ℕ → ℕ → Result Bool Refusal
same_roots s i k =
    cond (nat_lt i 64 && nat_lt k 64) (Ok (reference_to (root_in s i) == reference_to (root_in s k))) (Err RootAbove63)

abbrev pub head_at : State → Option ℕ → Result ℕ Refusal
head_at s None = Err RootNil
head_at s (Some p) = Ok (word_in s p)

abbrev pub head_of : State → ℕ → Result ℕ Refusal
head_of s i = cond (nat_lt i 64) (head_at s (root_in s i)) (Err RootAbove63)
