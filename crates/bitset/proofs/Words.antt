-- One word of a set: x holds the word at w of the set f if its digits are the members from 64 * w on. What is done to x is
-- done to f, since the numbers of a word are told by their remainders by 64.
use Rattle.std.proofs.Common.{◌≡◌, ℕ, ◌+◌, ◌-◌, ◌*◌, ◌/◌, ◌%◌, ◌^◌, ◌<◌, Bool, true, false, cond, ◌&&◌, ◌||◌, eqb, ltb, leb, sym, refl, ap, ◌∙◌, ap₂, arith}
use lib.Bits.{bit_and, bit_or}
use lib.Count.{ones}
use Rattle.std.proofs.lemmas.Bool.Decides.{nat_tests}
use Rattle.bitset.specs.Digit.{digit}
use Rattle.bitset.specs.Set.{empty, put, tally}
use Rattle.bitset.proofs.Digits.{digit_zero, digit_or, tally_ones}
use Rattle.bitset.proofs.Masks.{has_digit, with_digit, without_digit, below_digit, from-digit}
use Rattle.bitset.proofs.Set.{tally_ext}

-- the digits of x are the members of f in the word at w
abbrev pub Holds : (ℕ → Bool) → ℕ → ℕ → Type 0
Holds f w x = (k : ℕ) → k / 64 ≡ w → digit x (k % 64) ≡ f k

pub holds_like : (f g : ℕ → Bool) (w x : ℕ) → Holds f w x → ((k : ℕ) → k / 64 ≡ w → f k ≡ g k) → Holds g w x
holds_like f g w x h e k q = h k q ∙ e k q

pub holds_zero : (w : ℕ) → Holds empty w 0
holds_zero w k q = digit_zero (k % 64)

pub holds_has : (f : ℕ → Bool) (i x : ℕ) → Holds f (i / 64) x → eqb (bit_and (x / 2 ^ (i % 64)) 1) 1 ≡ f i
holds_has f i x h = has_digit x (i % 64) ∙ h i refl

-- in each of these y is what an operation makes of x

pub holds_with : (f : ℕ → Bool) (i x y : ℕ) → y ≡ bit_or x (2 ^ (i % 64)) → Holds f (i / 64) x → Holds (put f i true) (i / 64) y
holds_with f i x y e h k q =
    let z : eqb (k % 64) (i % 64) ≡ eqb k i = grind (arith, nat_tests) in
    ap (λ m. digit m (k % 64)) e ∙ with_digit x (i % 64) (k % 64) ∙ ap₂ (λ b v. cond b true v) z (h k q)

pub holds_without : (f : ℕ → Bool) (i x y : ℕ) → x < 2 ^ 64 → y ≡ bit_and x ((2 ^ 64 - 1) - 2 ^ (i % 64)) → Holds f (i / 64) x → Holds (put f i false) (i / 64) y
holds_without f i x y l e h k q =
    let z : eqb (k % 64) (i % 64) ≡ eqb k i = grind (arith, nat_tests) in
    ap (λ m. digit m (k % 64)) e ∙ without_digit x (i % 64) (k % 64) l (omega arith) ∙ ap₂ (λ b v. cond b false v) z (h k q)

pub holds_below : (f : ℕ → Bool) (i w x y : ℕ) → i / 64 ≡ w → y ≡ bit_and x (2 ^ (i % 64) - 1) → Holds f w x → Holds (λ k. ltb k i && f k) w y
holds_below f i w x y p e h k q =
    let z : ltb (k % 64) (i % 64) ≡ ltb k i = grind (arith, nat_tests) in
    ap (λ m. digit m (k % 64)) e ∙ below_digit x (i % 64) (k % 64) ∙ ap₂ ◌&&◌ z (h k q)

pub holds_from : (f : ℕ → Bool) (i w x y : ℕ) → i / 64 ≡ w → x < 2 ^ 64 → y ≡ bit_and x ((2 ^ 64 - 1) - (2 ^ (i % 64) - 1)) → Holds f w x → Holds (λ k. leb i k && f k) w y
holds_from f i w x y p l e h k q =
    let z : leb (i % 64) (k % 64) ≡ leb i k = grind (arith, nat_tests) in
    ap (λ m. digit m (k % 64)) e ∙ from-digit x (i % 64) (k % 64) l (omega arith) ∙ ap₂ ◌&&◌ z (h k q)

pub holds_or : (f g : ℕ → Bool) (w x y : ℕ) → Holds f w x → Holds g w y → Holds (λ k. f k || g k) w (bit_or x y)
holds_or f g w x y p q k e = digit_or x y (k % 64) ∙ ap₂ ◌||◌ (p k e) (q k e)

-- the word has as many digits set as there are members in it
pub holds_size : (f : ℕ → Bool) (w x : ℕ) → x < 2 ^ 64 → Holds f w x → ones x ≡ tally f (64 * w) 64
holds_size f w x l h =
    sym (tally_ones 64 x l)
    ∙ tally_ext (digit x) f 0 (64 * w) 64 (λ k m.
    let e : 0 + k ≡ (64 * w + k) % 64 = omega arith in
    let q : (64 * w + k) / 64 ≡ w = omega arith in
    ap (digit x) e ∙ h (64 * w + k) q)
