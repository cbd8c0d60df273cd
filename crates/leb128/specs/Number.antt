-- Numbers as groups of seven bits, low group first, in their shortest form.
use Rattle.std.specs.Prelude.{ℕ, zero, suc, ◌+◌, ◌-◌, ◌*◌, ◌/◌, ◌%◌, cond, ◌&&◌, List, [], ◌∷◌, ◌++◌, length, take, drop, Ok, Err, Result, ◌==◌, nat_lt, slice_set}
use Rattle.leb128.specs.declared.Fault.{Fault}
use Rattle.leb128.specs.declared.Fault.TheVariants.{EndsEarly, NotShortest, TooWide}
use Rattle.leb128.specs.declared.Number.{Number}

-- the number by which each fault is reported
abbrev pub refusal_of : Fault → ℕ
refusal_of EndsEarly = 10
refusal_of NotShortest = 11
refusal_of TooWide = 12

-- the groups of n, of which at most k follow the first
abbrev pub groups : ℕ → ℕ → List ℕ
groups zero n = n ∷ []
groups (suc k) n = cond (nat_lt n 128) (n ∷ []) ((128 + n % 128) ∷ groups k (n / 128))

-- the written form of n
unfoldable pub encode : ℕ → List ℕ
encode n = groups 4 n

-- how many groups of seven bits a number has, 1 for the number 0
abbrev pub group_count : ℕ → ℕ
group_count n = cond (nat_lt n 128) 1 (cond (nat_lt n 16384) 2 (cond (nat_lt n 2097152) 3 (cond (nat_lt n 268435456) 4 5)))

-- above each value whose written form has at most k bytes after the first, where a fifth byte is at most 15
abbrev pub limit : ℕ → ℕ
limit k = cond (k == 0) 16 (cond (k == 1) 2048 (cond (k == 2) 262144 (cond (k == 3) 33554432 4294967296)))

-- a value and the number of its bytes, or a fault
abbrev pub Decoded : Type 0
Decoded = Result (ℕ × ℕ) Fault

-- a byte with its top bit set, before what the bytes after it say
abbrev pub joined : ℕ → Decoded → Decoded
joined b (Ok p) = Ok (b - 128 + 128 * p.0, p.1 + 1)
joined b (Err f) = Err f

-- the bytes after the first, of which `left` may follow the next one
abbrev pub follow : List ℕ → ℕ → Decoded
follow [] left = Err EndsEarly
follow (b ∷ bs) left =
    cond (b == 0) (Err NotShortest)
    (cond (left == 0 && nat_lt 15 b) (Err TooWide)
    (cond (nat_lt b 128) (Ok (b, 1)) (joined b (follow bs (left - 1)))))

-- the number at the start of the bytes
abbrev pub decode : List ℕ → Decoded
decode [] = Err EndsEarly
decode (b ∷ bs) = cond (nat_lt b 128) (Ok (b, 1)) (joined b (follow bs 3))

abbrev pub from : ℕ → Decoded → Result Number Fault
from at (Ok p) = Ok (record { value = p.0; next = at + p.1 })
from at (Err f) = Err f

-- the number at the position `at`, and the position after it
unfoldable pub read_at : List ℕ → ℕ → Result Number Fault
read_at bs at = from at (decode (drop at bs))

-- out with the bytes bs set one after another from the position `at` on
abbrev pub replaced : List ℕ → ℕ → List ℕ → List ℕ
replaced out at [] = out
replaced out at (b ∷ bs) = replaced (slice_set out at b) (at + 1) bs

-- out with the bytes bs in place of those from the position `at` on: all others stay
abbrev pub overwritten : List ℕ → ℕ → List ℕ → List ℕ
overwritten out at bs = take at out ++ (bs ++ drop (at + length bs) out)
