-- The heap that never collects: what each edit answers and leaves. Objects are numbered from 1 in the order of making; a
-- reference is such a number, and nil is 0. There are 64 roots.
use Rattle.std.specs.Prelude.{ℕ, suc, ◌-◌, Bool, cond, ◌&&◌, List, [], ◌∷◌, ◌++◌, length, replicate, Ok, Err, Result, ◌==◌, nat_lt, slice_index, slice_index_or, slice_set}
use Rattle.image.specs.Content.{Content, Object}
use Rattle.layout.specs.Shape.{Shape, plain}
use Rattle.model.specs.declared.edits.Refusal.{Refusal}
use Rattle.model.specs.declared.edits.Refusal.TheVariants.{RootAbove63, IllegalHeader, RootNil, WrongPosition}
use Rattle.model.specs.declared.edits.Edit.{Edit}
use Rattle.model.specs.declared.edits.Edit.TheVariants.{New, Set, Get, Put, Peek, Copy, Clear, Same, Head}
use Rattle.model.specs.declared.edits.Reply.{Reply}
use Rattle.model.specs.declared.edits.Reply.TheVariants.{Granted, Word, Same as IsSame}
use Rattle.model.specs.Graph.{Graph}

-- no objects, and 64 nil roots
abbrev pub start : Content
start = record { roots = replicate 64 0; objects = [] }

-- the roots are 0 to 63
abbrev pub is_root : ℕ → Bool
is_root k = nat_lt k 64

-- what root k holds
abbrev pub held : Content → ℕ → ℕ
held m k = slice_index m.roots k

-- the object at a place of the list
abbrev pub object_at : List Object → ℕ → Object
object_at os n = slice_index_or os n (record { header = 0; body = [] })

-- object number n
abbrev pub numbered : Content → ℕ → Object
numbered m n = object_at m.objects (n - 1)

-- the word at a position of an object
abbrev pub word_at : Object → ℕ → ℕ
word_at o position = slice_index o.body (position - 1)

abbrev pub with_root : Content → ℕ → ℕ → Content
with_root m k v = record { roots = slice_set m.roots k v; objects = m.objects }

-- the word at a position of object number n becomes v
abbrev pub with_word : Content → ℕ → ℕ → ℕ → Content
with_word m n position v =
    record {
      roots = m.roots;
      objects =
          slice_set m.objects (n - 1) (record { header = (numbered m n).header; body = slice_set (numbered m n).body (position - 1) v });
    }

-- one more object, with a body of zeros
abbrev pub with_object : Shape → Content → ℕ → Content
with_object S m h =
    record { roots = m.roots; objects = m.objects ++ (record { header = h; body = replicate (S.size h - 1) 0 } ∷ []) }

-- a refusal alters nothing
abbrev pub refused : {A : Type 0} → Content → Refusal → Result A Refusal × Content
refused m why = (Err why, m)

-- an edit of the object that root i holds, which is nil or an object's number
abbrev pub of_object : {A : Type 0} → Content → ℕ → Result A Refusal × Content → Result A Refusal × Content
of_object m i done = cond (held m i == 0) (refused m RootNil) done

-- the number of the object that root i holds
abbrev pub held_number : Content → ℕ → Result ℕ Refusal
held_number m i = cond (is_root i) (of_object m i (Ok (held m i), m)).0 (Err RootAbove63)

abbrev pub new : Shape → Content → ℕ → ℕ → Result (Unit {0}) Refusal × Content
new S m root h =
    cond (is_root root)
    (cond (S.legal h) (Ok tt, with_root (with_object S m h) root (suc (length m.objects))) (refused m IllegalHeader))
    (refused m RootAbove63)

abbrev pub set_reference : Shape → Content → ℕ → ℕ → ℕ → Result (Unit {0}) Refusal × Content
set_reference S m i position k =
    cond (is_root i && is_root k)
    (of_object m i
    (cond (S.reference (numbered m (held m i)).header position)
    (Ok tt, with_word m (held m i) position (held m k))
    (refused m WrongPosition)))
    (refused m RootAbove63)

abbrev pub get_reference : Shape → Content → ℕ → ℕ → ℕ → Result (Unit {0}) Refusal × Content
get_reference S m i position k =
    cond (is_root i && is_root k)
    (of_object m i
    (cond (S.reference (numbered m (held m i)).header position)
    (Ok tt, with_root m k (word_at (numbered m (held m i)) position))
    (refused m WrongPosition)))
    (refused m RootAbove63)

abbrev pub put_word : Shape → Content → ℕ → ℕ → ℕ → Result (Unit {0}) Refusal × Content
put_word S m i position word =
    cond (is_root i)
    (of_object m i
    (cond (plain S (numbered m (held m i)).header position)
    (Ok tt, with_word m (held m i) position word)
    (refused m WrongPosition)))
    (refused m RootAbove63)

abbrev pub peek : Shape → Content → ℕ → ℕ → Result ℕ Refusal × Content
peek S m i position =
    cond (is_root i)
    (of_object m i
    (cond (plain S (numbered m (held m i)).header position)
    (Ok (word_at (numbered m (held m i)) position), m)
    (refused m WrongPosition)))
    (refused m RootAbove63)

abbrev pub copy : Content → ℕ → ℕ → Result (Unit {0}) Refusal × Content
copy m i k = cond (is_root i && is_root k) (Ok tt, with_root m k (held m i)) (refused m RootAbove63)

abbrev pub clear : Content → ℕ → Result (Unit {0}) Refusal × Content
clear m i = cond (is_root i) (Ok tt, with_root m i 0) (refused m RootAbove63)

abbrev pub same : Content → ℕ → ℕ → Result Bool Refusal × Content
same m i k = cond (is_root i && is_root k) (Ok (held m i == held m k), m) (refused m RootAbove63)

abbrev pub head : Content → ℕ → Result ℕ Refusal × Content
head m i = cond (is_root i) (of_object m i (Ok (numbered m (held m i)).header, m)) (refused m RootAbove63)

-- f of what is answered where it is granted; a refusal stays
abbrev pub map_answer : {A B : Type 0} → (A → B) → Result A Refusal → Result B Refusal
map_answer f (Ok answer) = Ok (f answer)
map_answer f (Err why) = Err why

-- an answer as a reply, beside the heap after the edit
abbrev pub answering : {A : Type 0} → (A → Reply) → Result A Refusal × Content → Result Reply Refusal × Content
answering f p = (map_answer f p.0, p.1)

abbrev pub altering : Result (Unit {0}) Refusal × Content → Result Reply Refusal × Content
altering p = answering (λ done. Granted) p

-- what an edit answers, and the heap after it
abbrev pub edited : Shape → Content → Edit → Result Reply Refusal × Content
edited S m (New root header) = altering (new S m root header)
edited S m (Set i position k) = altering (set_reference S m i position k)
edited S m (Get i position k) = altering (get_reference S m i position k)
edited S m (Put i position word) = altering (put_word S m i position word)
edited S m (Peek i position) = answering Word (peek S m i position)
edited S m (Copy i k) = altering (copy m i k)
edited S m (Clear i) = altering (clear m i)
edited S m (Same i k) = answering IsSame (same m i k)
edited S m (Head i) = answering Word (head m i)

-- its objects and references
abbrev pub graph_of : Content → Graph
graph_of m =
    record {
      node = λ n. nat_lt n (length m.objects);
      head = λ n. (object_at m.objects n).header;
      field = λ n position. word_at (object_at m.objects n) position;
      root = λ k. held m k;
    }
