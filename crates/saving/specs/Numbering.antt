-- Numbering what the roots reach in a work list. Its first entries hold the references of objects 1, 2 and so on.
use Rattle.std.specs.Prelude.{◌≡◌, ℕ, suc, ◌<◌, ◌≤◌, List, ◌∷◌, length, take, Ok, Err, Result}
use Rattle.model.specs.declared.edits.Refusal.{Refusal}
use Rattle.model.specs.declared.edits.Refusal.TheVariants.{WorkListShort}
use Rattle.saving.specs.Saved.{room}

-- the values that are numbered by the first entries: nil has number 0
abbrev pub values : List ℕ → ℕ → List ℕ
values list count = 0 ∷ take count list

-- the numbering comes to the values vs: so many entries of the list hold them, or they are more than there is room for
abbrev pub Numbers : List ℕ → List ℕ → Result ℕ Refusal → Type 0
Numbers vs list (Ok count) = (count ≤ room (length list)) × (values list count ≡ vs)
Numbers vs list (Err why) = (why ≡ WorkListShort) × (suc (room (length list)) < length vs)
