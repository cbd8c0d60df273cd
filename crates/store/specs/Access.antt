-- What a read and a write of a list of words answer.
use Rattle.std.specs.Prelude.{ℕ, cond, List, length, Ok, Err, Result, nat_lt, slice_index}
use Rattle.store.specs.declared.Outside.{Outside}

-- x where the index i is below n, and the refusal elsewhere
abbrev pub inside : {X : Type 0} → ℕ → ℕ → X → Result X Outside
inside n i x = cond (nat_lt i n) (Ok x) (Err (record {}))

-- what a read at the index i answers: the word there
abbrev pub read_at : List ℕ → ℕ → Result ℕ Outside
read_at ws i = inside (length ws) i (slice_index ws i)

-- what a write at the index i answers: that it is done
abbrev pub write_at : List ℕ → ℕ → Result (Unit {0}) Outside
write_at ws i = inside (length ws) i tt
