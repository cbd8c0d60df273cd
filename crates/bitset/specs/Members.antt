-- What a bit set holds.
use Rattle.std.specs.Prelude.{ℕ, ◌/◌, ◌%◌, ◌^◌, Bool, cond, List, nat_lt, slice_index}
use Rattle.bitset.specs.Digit.{digit}
use Rattle.bitset.specs.declared.bits.BitSet.{BitSet}

-- the word at w, of those whose numbers are below 2 ^ 64; any other counts as 0
abbrev pub word_at : List ℕ → ℕ → ℕ
word_at ws w = cond (nat_lt w (2 ^ 58)) (slice_index ws w) 0

-- the number k is the digit at place k % 64 of the word at k / 64
abbrev pub in_words : List ℕ → ℕ → Bool
in_words ws k = digit (word_at ws (k / 64)) (k % 64)

-- whether each number is a member
unfoldable pub members : {n : ℕ} → BitSet n → ℕ → Bool
members s = in_words s.words
