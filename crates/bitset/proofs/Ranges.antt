-- A range of numbers, word by word: its part in the first word goes from a to the end of that word, in a word between it is
-- the whole word, and in the last word it goes up to b. Each part is counted or taken out by a mask.
use Rattle.std.proofs.Common.{◌≡◌, ℕ, ◌+◌, ◌-◌, ◌*◌, ◌/◌, ◌%◌, ◌^◌, ◌<◌, ◌≤◌, Bool, ◌&&◌, ◌||◌, ltb, leb, List, length, get_or, take, drop, set, replicate, ⊎_elim, ◌++◌, true, false, cond, length-take, length-drop, length-set, zero, suc, add-one, sym, refl, ap, ◌∙◌, arith}
use Rattle.std.specs.List.{sum_by}
use Rattle.std.proofs.lemmas.List.{get_or-take, get_or-drop, get_or-append-add, get_or_append_left, length-take-le}
use Rattle.std.proofs.lemmas.List.Sums.{sum_by_more}
use Rattle.std.proofs.Math.Seq.{take-length}
use lib.Bits.{bit_and, bit_or, and_le_r}
use mathlib.Core.Path.{fun_ext}
use borrow.Rule.Slice.PartMut.{put_mid}
use Rattle.std.proofs.lemmas.Nat.{pow_below}
use Rattle.std.proofs.lemmas.List.{length-replicate, get_or-replicate}
use Rattle.std.proofs.lemmas.Slice.{take-put_mid_below, drop-put_mid}
use Rattle.std.proofs.lemmas.Bool.{cases_lt, cond-true, cond-false}
use lib.Count.{ones}
use Rattle.std.proofs.lemmas.Bool.Decides.{nat_tests}
use Rattle.bitset.specs.Digit.{digit}
use Rattle.bitset.specs.Members.{in_words}
use Rattle.bitset.specs.Set.{cut, tally}
use Rattle.bitset.proofs.Digits.{digit_zero}
use Rattle.bitset.proofs.Lists.{list_holds, list-cut}
use Rattle.bitset.proofs.Set.{tally_range, tally_split, tally_ext, cut_then}
use Rattle.bitset.proofs.Words.{Holds, holds_like, holds_size, holds_or, holds_below, holds_from}

-- what the masks leave of a word
abbrev pub below : ℕ → ℕ → ℕ
below x i = bit_and x (2 ^ (i % 64) - 1)

abbrev pub from : ℕ → ℕ → ℕ
from x i = bit_and x ((2 ^ 64 - 1) - (2 ^ (i % 64) - 1))

-- x has the members of f from a to below b, all in the word at w
part_size : (f : ℕ → Bool) (a b w x : ℕ) → x < 2 ^ 64 → 64 * w ≤ a → a ≤ b → b ≤ 64 * w + 64 → Holds (λ k. leb a k && (ltb k b && f k)) w x → ones x ≡ tally f a (b - a)
part_size f a b w x l p q r h = holds_size (λ k. leb a k && (ltb k b && f k)) w x l h ∙ tally_range f a b (64 * w) 64 p q r

-- ---- how many members a part has, where y is what a mask leaves of its word

pub start-size : (ws : List ℕ) (a y : ℕ) → a < 2 ^ 64 → get_or ws (a / 64) 0 < 2 ^ 64 → y < 2 ^ 64 → y ≡ from (get_or ws (a / 64) 0) a
    → ones y ≡ tally (in_words ws) a (64 * (a / 64 + 1) - a)
start-size ws a y la lx ly e =
    part_size (in_words ws) a (64 * (a / 64 + 1)) (a / 64) y ly (omega arith) (omega arith) (omega arith)
    (holds_like (λ k. leb a k && in_words ws k) (λ k. leb a k && (ltb k (64 * (a / 64 + 1)) && in_words ws k)) (a / 64) y
    (holds_from (in_words ws) a (a / 64) (get_or ws (a / 64) 0) y refl lx e (list_holds ws (a / 64) (omega arith)))
    (λ k q. grind (arith, nat_tests)))

-- the first n words
first_size : (ws : List ℕ) (n : ℕ) → n ≤ length ws → n ≤ 2 ^ 58 → ((k : ℕ) → k < length ws → get_or ws k 0 < 2 ^ 64)
    → sum_by ones (take n ws) ≡ tally (in_words ws) 0 (64 * n)
unfolding tally
first_size ws zero h l fits = refl
first_size ws (suc n) h l fits =
    let f = in_words ws in
    let one_more : sum_by ones (take (suc n) ws) ≡ sum_by ones (take n ws) + ones (get_or ws n 0) =
    ap (λ k. sum_by ones (take k ws)) (sym (add-one n)) ∙ sum_by_more ones ws n 0 (omega arith) in
    let here : ones (get_or ws n 0) ≡ tally f (64 * n) 64 = holds_size f n (get_or ws n 0) (fits n (omega arith)) (list_holds ws n (omega arith)) in
    let e : 64 * n + 64 ≡ 64 * suc n = omega arith in
    let z : 0 + 64 * n ≡ 64 * n = omega arith in
    let both : tally f 0 (64 * suc n) ≡ tally f 0 (64 * n) + tally f (64 * n) 64 =
    ap (tally f 0) (sym e) ∙ tally_split f 0 (64 * n) 64 ∙ ap (λ k. tally f 0 (64 * n) + tally f k 64) z in
    omega (arith, one_more, here, both, first_size ws n (omega arith) (omega arith) fits)

-- all of them
pub all_size : (ws : List ℕ) → length ws ≤ 2 ^ 58 → ((k : ℕ) → k < length ws → get_or ws k 0 < 2 ^ 64)
    → sum_by ones ws ≡ tally (in_words ws) 0 (64 * length ws)
all_size ws l fits = ap (sum_by ones) (sym (take-length ws)) ∙ first_size ws (length ws) (omega arith) l fits

-- n words from w on hold what the words hold there
pub part_tally : (ws : List ℕ) (w n : ℕ) → w + n ≤ 2 ^ 58 → tally (in_words (take n (drop w ws))) 0 (64 * n) ≡ tally (in_words ws) (64 * w) (64 * n)
part_tally ws w n h = tally_ext (in_words part) (in_words ws) 0 (64 * w) (64 * n) same
  where
    part : List ℕ
    part = take n (drop w ws)

    same : (k : ℕ) → k < 64 * n → in_words part (0 + k) ≡ in_words ws (64 * w + k)
    same k m =
        let zero_on : 0 + k ≡ k = omega arith in
        let q : (64 * w + k) / 64 ≡ w + k / 64 = omega arith in
        let r : k % 64 ≡ (64 * w + k) % 64 = omega arith in
        ap (in_words part) zero_on ∙ sym (list_holds part (k / 64) (omega arith) k refl)
        ∙ ap (λ x. digit x (k % 64)) (get_or-take n (drop w ws) (k / 64) 0 (omega arith) ∙ get_or-drop w ws (k / 64) 0)
        ∙ ap (digit (get_or ws (w + k / 64) 0)) r ∙ list_holds ws (w + k / 64) (omega arith) (64 * w + k) q

-- a mask leaves no more than it has
pub below_fits : (x i : ℕ) → below x i < 2 ^ 64
below_fits x i = omega (arith, and_le_r x (2 ^ (i % 64) - 1), pow_below (i % 64) 64 (omega arith))

pub end_size : (ws : List ℕ) (b y : ℕ) → b < 2 ^ 64 → y < 2 ^ 64 → y ≡ below (get_or ws (b / 64) 0) b → ones y ≡ tally (in_words ws) (64 * (b / 64)) (b - 64 * (b / 64))
end_size ws b y lb ly e =
    part_size (in_words ws) (64 * (b / 64)) b (b / 64) y ly (omega arith) (omega arith) (omega arith)
    (holds_like (λ k. ltb k b && in_words ws k) (λ k. leb (64 * (b / 64)) k && (ltb k b && in_words ws k)) (b / 64) y
    (holds_below (in_words ws) b (b / 64) (get_or ws (b / 64) 0) y refl e (list_holds ws (b / 64) (omega arith)))
    (λ k q. grind (arith, nat_tests)))

pub within_size : (ws : List ℕ) (a b x y : ℕ) → a < 2 ^ 64 → a / 64 ≡ b / 64 → a ≤ b → get_or ws (a / 64) 0 < 2 ^ 64 → y < 2 ^ 64
    → x ≡ from (get_or ws (a / 64) 0) a → y ≡ below x b → ones y ≡ tally (in_words ws) a (b - a)
within_size ws a b x y la q o lx ly e d =
    part_size (in_words ws) a b (a / 64) y ly (omega arith) o (omega arith)
    (holds_like (λ k. ltb k b && (leb a k && in_words ws k)) (λ k. leb a k && (ltb k b && in_words ws k)) (a / 64) y
    (holds_below (λ k. leb a k && in_words ws k) b (a / 64) x y (sym q) d
    (holds_from (in_words ws) a (a / 64) (get_or ws (a / 64) 0) x refl lx e (list_holds ws (a / 64) (omega arith))))
    (λ k r. grind (arith, nat_tests)))

-- ---- a part is taken out, where y takes the place of its word

pub start-cut : (ws : List ℕ) (a y : ℕ) → a < 2 ^ 64 → a / 64 < length ws → y ≡ below (get_or ws (a / 64) 0) a
    → in_words (set ws (a / 64) y) ≡ cut (in_words ws) a (64 * (a / 64 + 1))
start-cut ws a y la h e =
    list-cut ws a (64 * (a / 64 + 1)) (a / 64) y h (omega arith) (omega arith) (omega arith)
    (holds_like (λ k. ltb k a && in_words ws k) (cut (in_words ws) a (64 * (a / 64 + 1))) (a / 64) y
    (holds_below (in_words ws) a (a / 64) (get_or ws (a / 64) 0) y refl e (list_holds ws (a / 64) (omega arith)))
    (λ k q. grind (arith, nat_tests)))

-- k words from w on become 0
pub between-cut : (ws ys : List ℕ) (w k : ℕ) → ys ≡ replicate k 0 → w + k ≤ length ws → w + k ≤ 2 ^ 58
    → in_words (put_mid w k ws ys) ≡ cut (in_words ws) (64 * w) (64 * (w + k))
between-cut ws ys w k e h l = fun_ext at
  where
    after : List ℕ
    after = put_mid w k ws ys

    long : length ys ≡ k
    long = ap length e ∙ length-replicate {A = ℕ} k 0

    front : (j : ℕ) → j < w → get_or after j 0 ≡ get_or ws j 0
    front j m =
        sym (get_or-take w after j 0 m) ∙ ap (λ xs. get_or xs j 0) (take-put_mid_below w k ws ys w (omega arith) (omega arith)) ∙ get_or-take w ws j 0 m

    back : (j : ℕ) → w + k ≤ j → get_or after j 0 ≡ get_or ws j 0
    back j m =
        let e : w + k + (j - (w + k)) ≡ j = omega arith in
        sym (get_or-drop (w + k) after (j - (w + k)) 0 ∙ ap (λ i. get_or after i 0) e)
        ∙ ap (λ xs. get_or xs (j - (w + k)) 0) (drop-put_mid w k ws ys (w + k) (omega arith) (omega arith) long)
        ∙ get_or-drop (w + k) ws (j - (w + k)) 0 ∙ ap (λ i. get_or ws i 0) e

    clear : (j : ℕ) → w ≤ j → j < w + k → get_or after j 0 ≡ 0
    clear j m q =
        let there : length (take w ws) + (j - w) ≡ j = omega (arith, length-take-le w ws (omega arith)) in
        sym (ap (λ i. get_or after i 0) there) ∙ get_or-append-add (take w ws) (ys ++ drop k (drop w ws)) (j - w) 0
        ∙ get_or_append_left ys (drop k (drop w ws)) 0 (j - w) (omega (arith, long)) ∙ ap (λ xs. get_or xs (j - w) 0) e
        ∙ get_or-replicate {A = ℕ} k (j - w) 0 0 (omega arith)

    as_before : (i : ℕ) → get_or after (i / 64) 0 ≡ get_or ws (i / 64) 0 → (leb (64 * w) i && ltb i (64 * (w + k))) ≡ false
        → in_words after i ≡ cut (in_words ws) (64 * w) (64 * (w + k)) i
    as_before i same out = ap (λ x. digit (cond (ltb (i / 64) (2 ^ 58)) x 0) (i % 64)) same ∙ sym (cond-false _ _ _ out)

    at : (i : ℕ) → in_words after i ≡ cut (in_words ws) (64 * w) (64 * (w + k)) i
    at i =
        ⊎_elim (λ p. as_before i (front (i / 64) p) (grind (arith, nat_tests)))
        (λ p. ⊎_elim
        (λ q.
        let within : (leb (64 * w) i && ltb i (64 * (w + k))) ≡ true = grind (arith, nat_tests) in
        sym (list_holds after (i / 64) (omega arith) i refl) ∙ ap (λ x. digit x (i % 64)) (clear (i / 64) p q) ∙ digit_zero (i % 64)
        ∙ sym (cond-true _ _ _ within))
        (λ q. as_before i (back (i / 64) q) (grind (arith, nat_tests)))
        (cases_lt (i / 64) (w + k)))
        (cases_lt (i / 64) w)

-- the front of the first word is left, and the words after it up to h become 0
pub front-cut : (ws ys : List ℕ) (a y h : ℕ) → a < 2 ^ 64 → a / 64 < h → h ≤ length ws → h ≤ 2 ^ 58 → y ≡ below (get_or ws (a / 64) 0) a
    → ys ≡ replicate (length (take (h - (a / 64 + 1)) (drop (a / 64 + 1) (set ws (a / 64) y)))) 0
    → in_words (put_mid (a / 64 + 1) (h - (a / 64 + 1)) (set ws (a / 64) y) ys) ≡ cut (in_words ws) a (64 * h)
front-cut ws ys a y h la p q l e is =
    let w = a / 64 + 1 in
    let k = h - w in
    let xs = set ws (a / 64) y in
    let long : length (take k (drop w xs)) ≡ k = simp (length-take, length-drop, length-set) (omega arith) in
    let same : w + k ≡ h = omega arith in
    let between = between-cut xs ys w k (is ∙ ap (λ n. replicate n 0) long) (omega (arith, length-set ws (a / 64) y)) (omega arith)
    ∙ ap (λ v. cut (in_words xs) (64 * w) (64 * v)) same in
    cut_then (in_words ws) (in_words xs) (in_words (put_mid w k xs ys)) a (64 * w) (64 * h)
    (start-cut ws a y la (omega arith) e) between (omega arith) (omega arith)

pub end_cut : (ws : List ℕ) (b y : ℕ) → b < 2 ^ 64 → b / 64 < length ws → get_or ws (b / 64) 0 < 2 ^ 64 → y ≡ from (get_or ws (b / 64) 0) b
    → in_words (set ws (b / 64) y) ≡ cut (in_words ws) (64 * (b / 64)) b
end_cut ws b y lb h lx e =
    list-cut ws (64 * (b / 64)) b (b / 64) y h (omega arith) (omega arith) (omega arith)
    (holds_like (λ k. leb b k && in_words ws k) (cut (in_words ws) (64 * (b / 64)) b) (b / 64) y
    (holds_from (in_words ws) b (b / 64) (get_or ws (b / 64) 0) y refl lx e (list_holds ws (b / 64) (omega arith)))
    (λ k q. grind (arith, nat_tests)))

pub within_cut : (ws : List ℕ) (a b x y : ℕ) → a < 2 ^ 64 → a / 64 ≡ b / 64 → a ≤ b → a / 64 < length ws → get_or ws (a / 64) 0 < 2 ^ 64
    → x ≡ below (get_or ws (a / 64) 0) a → y ≡ from (get_or ws (a / 64) 0) b → in_words (set ws (a / 64) (bit_or x y)) ≡ cut (in_words ws) a b
within_cut ws a b x y la q o h lx e d =
    list-cut ws a b (a / 64) (bit_or x y) h (omega arith) (omega arith) (omega arith)
    (holds_like (λ k. (ltb k a && in_words ws k) || (leb b k && in_words ws k)) (cut (in_words ws) a b) (a / 64) (bit_or x y)
    (holds_or (λ k. ltb k a && in_words ws k) (λ k. leb b k && in_words ws k) (a / 64) x y
    (holds_below (in_words ws) a (a / 64) (get_or ws (a / 64) 0) x refl e (list_holds ws (a / 64) (omega arith)))
    (holds_from (in_words ws) b (a / 64) (get_or ws (a / 64) 0) y (sym q) lx d (list_holds ws (a / 64) (omega arith))))
    (λ k r. grind (arith, nat_tests)))
