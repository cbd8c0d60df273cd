-- What a word of 64 digits has after it is masked by the bit of a place j, or by the bits below it. The digits of the mask
-- are known, and `&`, `|` and the complement go digit by digit.
use Rattle.std.proofs.Common.{◌≡◌, ℕ, ◌-◌, ◌/◌, ◌^◌, ◌<◌, Bool, true, false, cond, not, ◌&&◌, ◌||◌, eqb, ltb, leb, sym, refl, ap, ◌∙◌, ⊎_elim, arith}
use lib.Bits.{bit_and, bit_or, and_mask}
use Rattle.std.proofs.lemmas.Nat.{pow_below}
use Rattle.std.proofs.lemmas.Bool.{cases_lt}
use Rattle.std.proofs.lemmas.Bool.Decides.{nat_tests}
use Rattle.bitset.specs.Digit.{digit}
use Rattle.bitset.specs.Set.{put}
use Rattle.bitset.proofs.Digits.{digit_and, digit_or, digit_not, digit_pow, digit_ones, digit-past, digit_is}

or_cond : (a b : Bool) → (a || b) ≡ cond b true a
or_cond true true = refl
or_cond true false = refl
or_cond false true = refl
or_cond false false = refl

and_not : (a b : Bool) → (a && not b) ≡ cond b false a
and_not true true = refl
and_not true false = refl
and_not false true = refl
and_not false false = refl

and_none : (a b c : Bool) → a ≡ false → (a && c) ≡ cond b false a
and_none false true c e = refl
and_none false false c e = refl
and_none true b c e = grind arith

-- `x >> j & 1 == 1`
pub has_digit : (x j : ℕ) → eqb (bit_and (x / 2 ^ j) 1) 1 ≡ digit x j
has_digit x j = ap (λ y. eqb y 1) (and_mask (x / 2 ^ j) 1) ∙ sym (digit_is x j)

-- `x | m`, where m is the bit of j
pub with_digit : (x j k : ℕ) → digit (bit_or x (2 ^ j)) k ≡ put (digit x) j true k
with_digit x j k = digit_or x (2 ^ j) k ∙ ap (λ b. digit x k || b) (digit_pow j k) ∙ or_cond (digit x k) (eqb k j)

-- `x & !m`
masked : (x m k : ℕ) → x < 2 ^ 64 → m < 2 ^ 64 → digit (bit_and x ((2 ^ 64 - 1) - m)) k ≡ cond (digit m k) false (digit x k)
masked x m k hx hm =
    digit_and x ((2 ^ 64 - 1) - m) k
    ∙ ⊎_elim (λ l. ap (λ b. digit x k && b) (digit_not 64 m k hm l) ∙ and_not (digit x k) (digit m k))
    (λ l. and_none (digit x k) (digit m k) (digit ((2 ^ 64 - 1) - m) k) (digit-past 64 x k hx l)) (cases_lt k 64)

-- `x & !m`, where m is the bit of j
pub without_digit : (x j k : ℕ) → x < 2 ^ 64 → j < 64 → digit (bit_and x ((2 ^ 64 - 1) - 2 ^ j)) k ≡ put (digit x) j false k
without_digit x j k hx h = masked x (2 ^ j) k hx (pow_below j 64 h) ∙ ap (λ b. cond b false (digit x k)) (digit_pow j k)

-- `x & m`, where m has the bits below j
pub below_digit : (x j k : ℕ) → digit (bit_and x (2 ^ j - 1)) k ≡ (ltb k j && digit x k)
below_digit x j k = digit_and x (2 ^ j - 1) k ∙ ap (λ b. digit x k && b) (digit_ones j k) ∙ swap (digit x k) (ltb k j)
  where
    swap : (a b : Bool) → (a && b) ≡ (b && a)
    swap true true = refl
    swap true false = refl
    swap false true = refl
    swap false false = refl

-- `x & !m`, where m has the bits below j
pub from-digit : (x j k : ℕ) → x < 2 ^ 64 → j < 64 → digit (bit_and x ((2 ^ 64 - 1) - (2 ^ j - 1))) k ≡ (leb j k && digit x k)
from-digit x j k hx h =
    masked x (2 ^ j - 1) k hx (omega (arith, pow_below j 64 h))
    ∙ ap (λ b. cond b false (digit x k)) (digit_ones j k) ∙ grind (arith, nat_tests)
