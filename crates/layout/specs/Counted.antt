-- The counted layout: the lowest byte of a header is the number of the object's references, the byte above it the number of
-- its plain words. After the header come the references, and then the plain words. The upper 16 bits are free.
use Rattle.std.specs.Prelude.{ℕ, ◌+◌, ◌/◌, ◌%◌, Bool, cond, ◌&&◌, nat_le}
use Rattle.layout.specs.Shape.{Shape}

-- the number of references that a header names
abbrev pub reference_count : ℕ → ℕ
reference_count h = h % 256

-- the number of plain words that a header names
abbrev pub plain_count : ℕ → ℕ
plain_count h = h / 256 % 256

-- a header is legal where the object has at most 64 words with its header
abbrev pub counted_legal : ℕ → Bool
counted_legal h = nat_le (reference_count h + plain_count h) 63

-- the header, the references and the plain words; 0 where the header is not legal
abbrev pub counted_size : ℕ → ℕ
counted_size h = cond (counted_legal h) (1 + reference_count h + plain_count h) 0

-- the positions from 1 to the number of references; none where the header is not legal
abbrev pub counted_reference : ℕ → ℕ → Bool
counted_reference h p = counted_legal h && nat_le 1 p && nat_le p (reference_count h)

-- sign 1, and as the sample the header of an object that is its header alone
abbrev pub counted : Shape
counted = record { sign = 1; sample = 0; legal = counted_legal; size = counted_size; reference = counted_reference }
