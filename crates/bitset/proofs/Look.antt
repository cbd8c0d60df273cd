-- Looking for the first member, word by word: none stands before the word at w, and x holds what is left of that word. A
-- word of 0 is passed, and in any other the lowest digit is the member looked for.
use Rattle.std.proofs.Common.{◌≡◌, ℕ, ◌+◌, ◌-◌, ◌*◌, ◌/◌, ◌%◌, ◌^◌, ◌<◌, ◌≤◌, Bool, false, ◌&&◌, leb, List, get_or, take, Some, None, refl, sym, ap, ◌∙◌, subst, ⊎_elim, arith}
use lib.Bits.{bit_and}
use Rattle.std.proofs.lemmas.List.{get_or-take}
use lib.Count.{count_trailing_zeros}
use Rattle.std.proofs.lemmas.Bool.{cases_lt, le-leb, and_parts, leb-true}
use Rattle.bitset.specs.Digit.{digit}
use Rattle.bitset.specs.Set.{First, Bounded}
use Rattle.bitset.proofs.Digits.{digit_zero, Lowest, lowest_trailing}
use Rattle.bitset.proofs.Words.{Holds, holds_from}
use Rattle.bitset.proofs.Lists.{list_holds}
use Rattle.bitset.specs.Members.{in_words}

-- no member from `from` on before the word at w
abbrev pub Before : (ℕ → Bool) → ℕ → ℕ → Type 0
Before f from w = (k : ℕ) → from ≤ k → k < 64 * w → f k ≡ false

-- x holds the members of the word at w that are at least `from`
abbrev pub Left : (ℕ → Bool) → ℕ → ℕ → ℕ → Type 0
Left f from w x = Holds (λ k. leb from k && f k) w x

left_is : (f : ℕ → Bool) (from w x : ℕ) → Left f from w x → (k : ℕ) → from ≤ k → k / 64 ≡ w → f k ≡ digit x (k % 64)
left_is f from w x h k l q = sym (h k q ∙ ap (λ t. t && f k) (le-leb from k l))

-- a later word is left whole
pub left_whole : (f : ℕ → Bool) (from w x : ℕ) → from / 64 < w → Holds f w x → Left f from w x
left_whole f from w x l h k q = h k q ∙ ap (λ t. t && f k) (sym (le-leb from k (omega arith)))

pub pass : (f : ℕ → Bool) (from w x : ℕ) → Before f from w → Left f from w x → x ≡ 0 → Before f from (w + 1)
pass f from w x b h z k l m =
    ⊎_elim (λ o. b k l o) (λ o. left_is f from w x h k l (omega arith) ∙ ap (λ y. digit y (k % 64)) z ∙ digit_zero (k % 64)) (cases_lt k (64 * w))

-- the lowest digit of a word, where t is the number of zeros that trail
pub lowest_at : (x t : ℕ) → 0 < x → x < 2 ^ 64 → t ≡ count_trailing_zeros 64 x → Lowest 64 x t
lowest_at x t p l e = subst (Lowest 64 x) (sym e) (lowest_trailing 64 x p l)

pub found : (f : ℕ → Bool) (from w x t : ℕ) → Before f from w → Left f from w x → Lowest 64 x t → First f from (Some (64 * w + t))
found f from w x t b h low =
    let tl : t < 64 = low.0 in
    let q : (64 * w + t) / 64 ≡ w = omega arith in
    let m : (64 * w + t) % 64 ≡ t = omega arith in
    let both = and_parts (leb from (64 * w + t)) (f (64 * w + t)) (sym (h (64 * w + t) q) ∙ ap (digit x) m ∙ low.1) in (
      leb-true from (64 * w + t) both.0,
      both.1,
      λ k l u. ⊎_elim (λ o. b k l o) (λ o. left_is f from w x h k l (omega arith) ∙ low.2 (k % 64) (omega arith)) (cases_lt k (64 * w)),
    )

-- past the bound there is none
pub none_left : (f : ℕ → Bool) (n from w : ℕ) → Bounded n f → Before f from w → n ≤ 64 * w → First f from None
none_left f n from w s b l k h = ⊎_elim (λ o. b k h o) (λ o. s k (omega arith)) (cases_lt k (64 * w))

-- ---- the words that a search goes over: the first m of a list, from that of `from` on

pub none_before : (f : ℕ → Bool) (from : ℕ) → Before f from (from / 64)
none_before f from k h l = absurd (omega arith)

-- what is left of the first word
pub left_first : (ws : List ℕ) (m from y x : ℕ) → m ≤ 2 ^ 58 → from / 64 < m → y ≡ get_or (take m ws) (from / 64) 0 → y < 2 ^ 64
    → x ≡ bit_and y ((2 ^ 64 - 1) - (2 ^ (from % 64) - 1)) → Left (in_words ws) from (from / 64) x
left_first ws m from y x small h here fits is =
    let e : get_or ws (from / 64) 0 ≡ y = sym (here ∙ get_or-take m ws (from / 64) 0 h) in
    holds_from (in_words ws) from (from / 64) y x refl fits is (subst (Holds (in_words ws) (from / 64)) e (list_holds ws (from / 64) (omega arith)))
