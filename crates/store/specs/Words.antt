-- Words of four bytes each, lowest byte first. The bytes past the last whole word are spare.
use Rattle.std.specs.Prelude.{ℕ, ◌+◌, ◌*◌, ◌/◌, ◌%◌, cond, List, [], ◌∷◌, map, length, drop, Result, nat_lt, slice_index, slice_set}
use Rattle.std.specs.List.{range_with_len, flat_map}
use Rattle.store.specs.declared.Outside.{Outside}
use Rattle.store.specs.Access.{inside}

-- the word at the index i
abbrev pub word_at : List ℕ → ℕ → ℕ
word_at bs i =
    slice_index bs (4 * i) + 256 * slice_index bs (4 * i + 1) + 65536 * slice_index bs (4 * i + 2) + 16777216 * slice_index bs (4 * i + 3)

-- the words: one for every four bytes
unfoldable pub words_of : List ℕ → List ℕ
words_of bs = map (word_at bs) (range_with_len 0 (length bs / 4))

-- the bytes past the last whole word
unfoldable pub spare_of : List ℕ → List ℕ
spare_of bs = drop (4 * (length bs / 4)) bs

-- the four bytes of a word
abbrev pub four_bytes : ℕ → List ℕ
four_bytes w = w % 256 ∷ w / 256 % 256 ∷ w / 65536 % 256 ∷ w / 16777216 ∷ []

-- the bytes of words
unfoldable pub bytes_of : List ℕ → List ℕ
bytes_of ws = flat_map four_bytes ws

-- what a write of the word at the index i answers
abbrev pub word_done : List ℕ → ℕ → Result (Unit {0}) Outside
word_done bs i = inside (length bs / 4) i tt

-- bs with the four bytes of w from the position p on
abbrev pub four_set : List ℕ → ℕ → ℕ → List ℕ
four_set bs p w =
    slice_set (slice_set (slice_set (slice_set bs p (w % 256)) (p + 1) (w / 256 % 256)) (p + 2) (w / 65536 % 256)) (p + 3) (w / 16777216)

-- bs with w as the word at the index i, or as it is where there is no such word
abbrev pub word_written : List ℕ → ℕ → ℕ → List ℕ
word_written bs i w = cond (nat_lt i (length bs / 4)) (four_set bs (4 * i) w) bs
