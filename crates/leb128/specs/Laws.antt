-- What a reader of one number promises.
use Rattle.std.specs.Prelude.{◌≡◌, ℕ, ◌+◌, ◌^◌, ◌<◌, ◌≤◌, ◌↔◌, List, ◌++◌, length, drop, Ok, Err, Result, slice_index}
use Rattle.leb128.specs.declared.Fault.{Fault}
use Rattle.leb128.specs.declared.Fault.TheVariants.{EndsEarly, NotShortest, TooWide}
use Rattle.leb128.specs.declared.Number.{Number}
use Rattle.leb128.specs.Number.{encode}

-- a written number is read back, and the reading stops right after it, whatever follows
abbrev pub ReadsBack : List ℕ → ℕ → Result Number Fault → Type 0
ReadsBack bs at r =
    (n : ℕ) (rest : List ℕ) → n < 2 ^ 32 → drop at bs ≡ encode n ++ rest →
    r ≡ Ok (record { value = n; next = at + length (encode n) })

-- what is read is the written form of its value, inside the bytes
abbrev pub Canonical : List ℕ → ℕ → Result Number Fault → Type 0
Canonical bs at (Ok p) =
    (p.value < 2 ^ 32) × (drop at bs ≡ encode p.value ++ drop p.next bs) × (p.next ≤ length bs) × (at < p.next) × (p.next ≤ at + 5)
Canonical bs at (Err f) = Unit {0}

-- the first k bytes are there, each with its top bit set
abbrev pub Continue : ℕ → List ℕ → Type 0
Continue k bs = (k ≤ length bs) × ((i : ℕ) → i < k → 128 ≤ slice_index bs i)

-- when each fault comes
abbrev pub Fails : Fault → List ℕ → Type 0
Fails EndsEarly bs = (length bs ≤ 4) × Continue (length bs) bs
Fails NotShortest bs = (k : ℕ) × (1 ≤ k) × (k ≤ 4) × Continue k bs × (k < length bs) × (slice_index bs k ≡ 0)
Fails TooWide bs = Continue 4 bs × (4 < length bs) × (15 < slice_index bs 4)

-- each fault comes exactly on its condition
abbrev pub FaultsExactly : List ℕ → ℕ → Result Number Fault → Type 0
FaultsExactly bs at r = (f : Fault) → (r ≡ Err f) ↔ Fails f (drop at bs)

-- the laws of one reading
pub record Reading (bs : List ℕ) (at : ℕ) (r : Result Number Fault) : Type 0 where
  pub reads_back : ReadsBack bs at r
  pub canonical : Canonical bs at r
  pub exact : FaultsExactly bs at r
