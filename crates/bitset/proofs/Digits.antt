-- The digits of a number after `&`, `|`, a power of two and a complement. Each operation halves as its arguments do, so each
-- law goes by induction on the place, one halving at a time.
use Rattle.std.proofs.Common.{◌≡◌, ℕ, zero, suc, ◌+◌, ◌-◌, ◌/◌, ◌%◌, ◌^◌, ◌<◌, ◌≤◌, min, max, true, false, not, ◌&&◌, ◌||◌, eqb, ltb, sym, refl, ap, ◌∙◌, ap₂, pow-suc, arith, pow_pos, shr-shr}
use lib.Dec.{leb-zero, leb-suc-zero, leb-suc-suc, eqb-zero-suc, eqb-suc-zero, eqb-suc-suc}
use lib.Bits.{bit_and, bit_or, and_step, or_step}
use lib.Count.{count_trailing_zeros, ones, ones_step, under}
use Rattle.std.proofs.lemmas.Bool.Decides.{nat_tests}
use Rattle.bitset.specs.Digit.{digit}
use Rattle.bitset.specs.Set.{one, tally}
use Rattle.bitset.proofs.Set.{tally_front, tally_ext}

and_half : (a b : ℕ) → bit_and a b / 2 ≡ bit_and (a / 2) (b / 2)
and_half a b = omega (arith, and_step a b)

and_odd : (a b : ℕ) → bit_and a b % 2 ≡ min (a % 2) (b % 2)
and_odd a b = omega (arith, and_step a b)

or_half : (a b : ℕ) → bit_or a b / 2 ≡ bit_or (a / 2) (b / 2)
or_half a b = omega (arith, or_step a b)

or_odd : (a b : ℕ) → bit_or a b % 2 ≡ max (a % 2) (b % 2)
or_odd a b = omega (arith, or_step a b)

pub digit_and : (a b j : ℕ) → digit (bit_and a b) j ≡ (digit a j && digit b j)
unfolding digit
digit_and a b zero = rw and_odd (grind (arith, nat_tests))
digit_and a b (suc j) = rw and_half (digit_and (a / 2) (b / 2) j)

pub digit_or : (a b j : ℕ) → digit (bit_or a b) j ≡ (digit a j || digit b j)
unfolding digit
digit_or a b zero = rw or_odd (grind (arith, nat_tests))
digit_or a b (suc j) = rw or_half (digit_or (a / 2) (b / 2) j)

pub digit_zero : (j : ℕ) → digit 0 j ≡ false
unfolding digit
digit_zero zero = refl
digit_zero (suc j) = digit_zero j

-- 2 ^ j has the digit j alone
pub digit_pow : (j k : ℕ) → digit (2 ^ j) k ≡ eqb k j
unfolding digit
digit_pow zero zero = refl
digit_pow zero (suc k) = digit_zero k ∙ sym (eqb-suc-zero k)
digit_pow (suc j) zero = let e : 2 ^ suc j % 2 ≡ 0 = omega (arith, pow-suc 2 j) in ap (λ r. eqb r 1) e ∙ sym (eqb-zero-suc j)
digit_pow (suc j) (suc k) =
    let e : 2 ^ suc j / 2 ≡ 2 ^ j = omega (arith, pow-suc 2 j) in
    ap (λ y. digit y k) e ∙ digit_pow j k ∙ sym (eqb-suc-suc k j)

-- 2 ^ n - 1 has the digits below n
pub digit_ones : (n k : ℕ) → digit (2 ^ n - 1) k ≡ ltb k n
unfolding digit
digit_ones zero k = digit_zero k ∙ sym (leb-suc-zero k)
digit_ones (suc n) zero =
    let e : (2 ^ suc n - 1) % 2 ≡ 1 = omega (arith, pow-suc 2 n, pow_pos n) in
    ap (λ r. eqb r 1) e ∙ sym (leb-zero n) ∙ sym (leb-suc-suc 0 n)
digit_ones (suc n) (suc k) =
    let e : (2 ^ suc n - 1) / 2 ≡ 2 ^ n - 1 = omega (arith, pow-suc 2 n, pow_pos n) in
    ap (λ y. digit y k) e ∙ digit_ones n k ∙ sym (leb-suc-suc (suc k) n)

-- the complement in n digits
pub digit_not : (n x k : ℕ) → x < 2 ^ n → k < n → digit ((2 ^ n - 1) - x) k ≡ not (digit x k)
unfolding digit
digit_not zero x k h l = absurd (omega arith)
digit_not (suc n) x zero h l =
    let e : ((2 ^ suc n - 1) - x) % 2 ≡ 1 - x % 2 = omega (arith, pow-suc 2 n) in rw e (grind (arith, nat_tests))
digit_not (suc n) x (suc k) h l =
    let e : ((2 ^ suc n - 1) - x) / 2 ≡ (2 ^ n - 1) - x / 2 = omega (arith, pow-suc 2 n) in
    ap (λ y. digit y k) e ∙ digit_not n (x / 2) k (omega (arith, pow-suc 2 n)) (omega arith)

-- a number below 2 ^ n has no digit at or past n
pub digit-past : (n x k : ℕ) → x < 2 ^ n → n ≤ k → digit x k ≡ false
unfolding digit
digit-past zero x k h l = let e : x ≡ 0 = omega arith in ap (λ y. digit y k) e ∙ digit_zero k
digit-past (suc n) x zero h l = absurd (omega arith)
digit-past (suc n) x (suc k) h l = digit-past n (x / 2) k (omega (arith, pow-suc 2 n)) (omega arith)

-- the digit j is the remainder by 2 after j halvings
pub digit_is : (x j : ℕ) → digit x j ≡ eqb (x / 2 ^ j % 2) 1
unfolding digit
digit_is x zero = let e : x ≡ x / 1 = omega arith in ap (λ y. eqb (y % 2) 1) e
digit_is x (suc j) =
    let e : 1 + j ≡ suc j = omega arith in
    digit_is (x / 2) j ∙ ap (λ y. eqb (y % 2) 1) (shr-shr x 1 j ∙ ap (λ m. x / 2 ^ m) e)

-- t is the place of the lowest digit of x that is set, and below n
abbrev pub Lowest : ℕ → ℕ → ℕ → Type 0
Lowest n x t = (t < n) × (digit x t ≡ true) × ((k : ℕ) → k < t → digit x k ≡ false)

lowest_even : (n x t : ℕ) → x % 2 ≡ 0 → Lowest n (x / 2) t → Lowest (suc n) x (suc t)
unfolding digit
lowest_even n x t e ih = (omega (arith, ih.0), ih.1, low)
  where
    low : (k : ℕ) → k < suc t → digit x k ≡ false
    low zero l = ap (λ r. eqb r 1) e
    low (suc k) l = ih.2 k (omega arith)

lowest_odd : (n x : ℕ) → x % 2 ≡ 1 → Lowest (suc n) x 0
unfolding digit
lowest_odd n x e = (omega arith, ap (λ r. eqb r 1) e, λ k l. absurd (omega arith))

-- as many zeros as trail stand before that place
pub lowest_trailing : (n x : ℕ) → 0 < x → x < 2 ^ n → Lowest n x (count_trailing_zeros n x)
unfolding digit count_trailing_zeros
lowest_trailing zero x p h = absurd (omega arith)
lowest_trailing (suc n) x p h = go (x % 2) refl (λ q. lowest_trailing n (x / 2) q (omega (arith, pow-suc 2 n)))
  where
    go : (r : ℕ) → x % 2 ≡ r → (0 < x / 2 → Lowest n (x / 2) (count_trailing_zeros n (x / 2))) → Lowest (suc n) x (under r (count_trailing_zeros n (x / 2)))
    go zero e ih = lowest_even n x (count_trailing_zeros n (x / 2)) e (ih (omega arith))
    go (suc d) e ih = lowest_odd n x (omega arith)

-- `ones` counts the digits that are set
pub tally_ones : (n x : ℕ) → x < 2 ^ n → tally (digit x) 0 n ≡ ones x
unfolding digit ones tally
tally_ones zero x h = let e : 0 ≡ x = omega arith in ap ones e
tally_ones (suc n) x h =
    tally_front (digit x) 0 n
    ∙ ap₂ ◌+◌ (low (x % 2) (omega arith)) (tally_ext (digit x) (digit (x / 2)) 1 0 n (λ k l. next k))
    ∙ ap (λ m. x % 2 + m) (tally_ones n (x / 2) (omega (arith, pow-suc 2 n)))
    ∙ sym (ones_step x)
  where
    low : (r : ℕ) → r < 2 → one (eqb r 1) ≡ r
    low r l = grind (arith, nat_tests)

    next : (k : ℕ) → digit x (1 + k) ≡ digit (x / 2) (0 + k)
    next k = let e : 1 + k ≡ suc k = omega arith in let z : k ≡ 0 + k = omega arith in ap (digit x) e ∙ ap (digit (x / 2)) z
