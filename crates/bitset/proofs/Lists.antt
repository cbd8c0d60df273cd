-- The list of words of a set. The word at w holds the word at w of the set, and a change of one word changes the numbers of
-- that word alone.
use Rattle.std.proofs.Common.{◌≡◌, ℕ, ◌+◌, ◌*◌, ◌/◌, ◌%◌, ◌^◌, ◌<◌, ◌≤◌, Bool, false, cond, ◌&&◌, eqb, ltb, leb, List, length, get_or, set, replicate, sym, ap, ◌∙◌, ⊎_elim, arith, get_or-set_other, get_or-set_same}
use mathlib.Core.Path.{fun_ext}
use Rattle.std.proofs.lemmas.List.{get_or-replicate, get_or_past, length-replicate}
use lib.Bits.{bit_and}
use Rattle.std.proofs.lemmas.Bool.{cases_eq, cases_lt, lt-ltb, le-ltb}
use Rattle.std.proofs.lemmas.Bool.Decides.{nat_tests}
use Rattle.bitset.specs.Digit.{digit}
use Rattle.bitset.specs.Members.{word_at, in_words}
use Rattle.bitset.specs.Set.{empty, put, cut, Bounded}
use Rattle.bitset.proofs.Digits.{digit_zero}
use Rattle.bitset.proofs.Words.{Holds, holds_has}

pub word_low : (ws : List ℕ) (w : ℕ) → w < 2 ^ 58 → word_at ws w ≡ get_or ws w 0
word_low ws w h = grind (arith, nat_tests)

pub list_holds : (ws : List ℕ) (w : ℕ) → w < 2 ^ 58 → Holds (in_words ws) w (get_or ws w 0)
list_holds ws w h k q = ap (λ x. digit x (k % 64)) (sym (word_low ws w h)) ∙ ap (λ v. digit (word_at ws v) (k % 64)) (sym q)

-- a list of zeros holds nothing
pub list-none : (n : ℕ) → in_words (replicate n 0) ≡ empty
list-none n = fun_ext (λ k. ap (λ x. digit x (k % 64)) (each (k / 64)) ∙ digit_zero (k % 64))
  where
    zero_at : (w : ℕ) → ◌≡◌ {A = ℕ} (get_or (replicate n 0) w 0) 0
    zero_at w = ⊎_elim (get_or-replicate {A = ℕ} n w 0 0) (λ h. get_or_past {X = ℕ} (replicate n 0) w 0 (omega (arith, length-replicate {A = ℕ} n 0))) (cases_lt w n)

    each : (w : ℕ) → ◌≡◌ {A = ℕ} (word_at (replicate n 0) w) 0
    each w = let e = zero_at w in grind (arith, nat_tests)

-- past the last word there is nothing
pub list_bounded : (ws : List ℕ) → Bounded (64 * length ws) (in_words ws)
list_bounded ws k h = ap (λ x. digit x (k % 64)) none ∙ digit_zero (k % 64)
  where
    none : word_at ws (k / 64) ≡ 0
    none = let e : get_or ws (k / 64) 0 ≡ 0 = get_or_past ws (k / 64) 0 (omega arith) in grind (arith, nat_tests)

-- nor is there anything that 64 bits do not reach
pub list_reach : (ws : List ℕ) → Bounded (2 ^ 64) (in_words ws)
list_reach ws k h = ap (λ x. digit x (k % 64)) none ∙ digit_zero (k % 64)
  where
    none : word_at ws (k / 64) ≡ 0
    none = let l : 2 ^ 58 ≤ k / 64 = omega arith in grind (arith, nat_tests)

-- the word at w becomes y, which holds the word at w of g; elsewhere g is what was there
pub list_set : (ws : List ℕ) (w y : ℕ) (g : ℕ → Bool) → w < length ws → w < 2 ^ 58 → Holds g w y → ((k : ℕ) → (k / 64 ≡ w → ⊥) → in_words ws k ≡ g k)
    → in_words (set ws w y) ≡ g
list_set ws w y g h l here there =
    fun_ext (λ k. ⊎_elim
    (λ e. ap (λ v. digit (word_at (set ws w y) v) (k % 64)) e ∙ ap (λ x. digit x (k % 64)) (word_low (set ws w y) w l ∙ get_or-set_same ws w y 0 h) ∙ here k e)
    (λ ne. ap (λ x. digit (cond (ltb (k / 64) (2 ^ 58)) x 0) (k % 64)) (get_or-set_other ws w (k / 64) y 0 ne) ∙ there k ne) (cases_eq (k / 64) w))

-- one number is put in or out
pub list_put : (ws : List ℕ) (i y : ℕ) (v : Bool) → i / 64 < length ws → i < 2 ^ 64 → Holds (put (in_words ws) i v) (i / 64) y → in_words (set ws (i / 64) y) ≡ put (in_words ws) i v
list_put ws i y v h l e =
    list_set ws (i / 64) y (put (in_words ws) i v) h (omega arith) e
    (λ k ne. let z : eqb k i ≡ false = grind (arith, nat_tests) in sym (ap (λ b. cond b v (in_words ws k)) z))

-- the numbers from a to below b, all in one word, are taken out
pub list-cut : (ws : List ℕ) (a b w y : ℕ) → w < length ws → w < 2 ^ 58 → 64 * w ≤ a → b ≤ 64 * w + 64 → Holds (cut (in_words ws) a b) w y
    → in_words (set ws w y) ≡ cut (in_words ws) a b
list-cut ws a b w y h l p q e =
    list_set ws w y (cut (in_words ws) a b) h l e
    (λ k ne. let z : (leb a k && ltb k b) ≡ false = grind (arith, nat_tests) in sym (ap (λ c. cond c false (in_words ws k)) z))

-- the bit of a number in its word, if there is such a word, tells whether it is a member
pub list_has : (ws : List ℕ) (i : ℕ) → i < 2 ^ 64 → (ltb (i / 64) (length ws) && eqb (bit_and (get_or ws (i / 64) 0 / 2 ^ (i % 64)) 1) 1) ≡ in_words ws i
list_has ws i l =
    ⊎_elim
    (λ h. ap (λ b. b && eqb (bit_and (get_or ws (i / 64) 0 / 2 ^ (i % 64)) 1) 1) (lt-ltb (i / 64) (length ws) h)
    ∙ holds_has (in_words ws) i (get_or ws (i / 64) 0) (list_holds ws (i / 64) (omega arith)))
    (λ h. ap (λ b. b && eqb (bit_and (get_or ws (i / 64) 0 / 2 ^ (i % 64)) 1) 1) (le-ltb (i / 64) (length ws) h)
    ∙ sym (list_bounded ws i (omega arith)))
    (cases_lt (i / 64) (length ws))
