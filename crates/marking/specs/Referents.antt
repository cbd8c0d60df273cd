-- What an object refers to.
use Rattle.std.specs.Prelude.{ℕ, ◌+◌, cond, None, Option}
use Rattle.layout.specs.Shape.{Shape}
use Rattle.memory.specs.Edits.{named_by}
use Rattle.memory.specs.State.{State, word_in}

-- the place that the word at position i names, if that is a reference of the object at p under header h, and not nil
abbrev pub referent_in : Shape → State → ℕ → ℕ → ℕ → Option ℕ
referent_in S s p h i = cond (S.reference h i) (named_by (word_in s (p + i))) None
