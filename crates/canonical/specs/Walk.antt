-- Values in the order in which they are first met. A value is 0 for nil, or refers to an object and is its name + 1. The list of
-- the values met begins with nil, so that the number of a value is its place in the list.
use Rattle.std.specs.Prelude.{ℕ, zero, suc, cond, List, [], ◌∷◌, ◌++◌, length, ◌==◌, nat_lt, slice_index}

-- the first place of a value in a list, or the length of the list where the value does not stand in it
abbrev pub place_of : ℕ → List ℕ → ℕ
place_of v [] = 0
place_of v (w ∷ ws) = cond (v == w) 0 (suc (place_of v ws))

-- the list after a value is met: a new one comes to stand at the end
abbrev pub met : ℕ → List ℕ → List ℕ
met v ws = cond (nat_lt (place_of v ws) (length ws)) ws (ws ++ (v ∷ []))

-- the same for values one after another
abbrev pub all_met : List ℕ → List ℕ → List ℕ
all_met [] ws = ws
all_met (v ∷ vs) ws = all_met vs (met v ws)

-- goes through the list from place k on, and meets what the value at each place refers to; the list may grow on the way. Past
-- its end nil is read, which refers to nothing, so that steps to spare change nothing
abbrev pub walked : (ℕ → List ℕ) → ℕ → ℕ → List ℕ → List ℕ
walked referred zero k ws = ws
walked referred (suc steps) k ws = walked referred steps (suc k) (all_met (referred (slice_index ws k)) ws)
