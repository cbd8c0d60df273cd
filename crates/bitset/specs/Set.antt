-- A set of numbers is a test: whether each number is a member.
use Rattle.std.specs.Prelude.{◌≡◌, ℕ, zero, suc, ◌+◌, ◌<◌, ◌≤◌, Bool, true, false, cond, ◌&&◌, Some, None, Option, ◌==◌, nat_le, nat_lt}

-- no number is a member
abbrev pub empty : ℕ → Bool
empty k = false

-- i is a member or not, as v says; all others as before
abbrev pub put : (ℕ → Bool) → ℕ → Bool → ℕ → Bool
put f i v k = cond (k == i) v (f k)

-- i becomes a member, if it is below n
unfoldable pub joined : ℕ → (ℕ → Bool) → ℕ → ℕ → Bool
joined n f i = put f i (nat_lt i n)

-- none of a .. b is a member; all others as before
abbrev pub cut : (ℕ → Bool) → ℕ → ℕ → ℕ → Bool
cut f a b k = cond (nat_le a k && nat_lt k b) false (f k)

-- 1 for a member, 0 for another number
abbrev pub one : Bool → ℕ
one true = 1
one false = 0

-- how many of the n numbers from a on are members
unfoldable pub tally : (ℕ → Bool) → ℕ → ℕ → ℕ
tally f a zero = 0
tally f a (suc n) = tally f a n + one (f (a + n))

-- no number at or past n is a member
abbrev pub Bounded : ℕ → (ℕ → Bool) → Type 0
Bounded n f = (k : ℕ) → n ≤ k → f k ≡ false

-- the lowest member at or above a number, or that there is none
abbrev pub First : (ℕ → Bool) → ℕ → Option ℕ → Type 0
First f from None = (k : ℕ) → from ≤ k → f k ≡ false
First f from (Some i) = (from ≤ i) × (f i ≡ true) × ((k : ℕ) → from ≤ k → k < i → f k ≡ false)

-- the lowest member of the n numbers from a on
unfoldable pub first_of : (ℕ → Bool) → ℕ → ℕ → Option ℕ
first_of f a zero = None
first_of f a (suc n) = cond (f a) (Some a) (first_of f (suc a) n)
