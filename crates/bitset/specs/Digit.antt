-- The binary digits of a number, lowest first.
use Rattle.std.specs.Prelude.{ℕ, zero, suc, ◌/◌, ◌%◌, Bool, ◌==◌}

-- whether the digit at place j is set
unfoldable pub digit : ℕ → ℕ → Bool
digit x zero = x % 2 == 1
digit x (suc j) = digit (x / 2) j
