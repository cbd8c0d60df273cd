-- The laws of words and bytes: what is read, what a write leaves, and that bytes are their words and then their spare bytes.
use Rattle.std.proofs.Common.{◌≡◌, ℕ, zero, suc, ◌+◌, ◌*◌, ◌/◌, ◌%◌, ◌<◌, ◌≤◌, ltb, ◌≢◌, List, [], ◌∷◌, ◌++◌, map, length, get_or, take, drop, set, sym, refl, ap, ◌∙◌, ⊎_elim, arith}
use Rattle.std.specs.List.{range_with_len, flat_map}
use Rattle.std.proofs.lemmas.List.FromFn.{length-map-range_with_len, get_or-map-range_with_len}
use Rattle.std.proofs.lemmas.List.{length-set, get_or-set_same, get_or-set_other, set_past, drop-set-lt, drop_more, drop-drop, get_or-drop, get_or-take, ext_get_or}
use Rattle.std.specs.Int.{from_le_bytes, w32}
use Rattle.std.specs.Simd.{first_chunks}
use Rattle.std.proofs.lemmas.Bool.{cases_eq, cond_both, ltb-true, ltb-false}
use Rattle.store.specs.Access.{write_at}
use Rattle.store.specs.Words.{word_at, words_of, spare_of, four_bytes, bytes_of, word_done, four_set, word_written}

-- ---- the words of bytes

pub length-words : (bs : List ℕ) → length (words_of bs) ≡ length bs / 4
unfolding words_of
length-words bs = length-map-range_with_len (word_at bs) 0 (length bs / 4)

get_d_words : (bs : List ℕ) (i : ℕ) → i < length bs / 4 → get_or (words_of bs) i 0 ≡ word_at bs i
unfolding words_of
get_d_words bs i h = get_or-map-range_with_len (word_at bs) 0 (length bs / 4) i i 0 h (omega arith)

-- ---- the same by groups of four bytes, as the code goes

-- the group at i begins at the byte 4 * i
four_at : (k : ℕ) (bs : List ℕ) (i : ℕ) (d : List ℕ) → i < k → get_or (first_chunks 4 k bs) i d ≡ take 4 (drop (4 * i) bs)
four_at zero bs i d h = absurd (omega arith)
four_at (suc k) bs zero d h = refl
four_at (suc k) bs (suc i) d h =
    let next : 4 + 4 * i ≡ 4 * suc i = omega arith in
    four_at k (drop 4 bs) i d (omega arith) ∙ ap (take 4) (drop-drop (4 * i) 4 bs ∙ ap (λ n. drop n bs) next)

-- read as a number, it is the word at i
pub word_of_four : (bs : List ℕ) (i : ℕ) (d : List ℕ) → i < length bs / 4
    → from_le_bytes w32 (get_or (first_chunks 4 (length bs / 4) bs) i d) ≡ get_or (words_of bs) i 0
word_of_four bs i d h =
    let there : word_at bs i ≡ get_or (words_of bs) i 0 = sym (get_d_words bs i h) in
    let byte : (j q : ℕ) → j < 4 → 4 * i + j ≡ q → get_or (take 4 (drop (4 * i) bs)) j 0 ≡ get_or bs q 0 =
    λ j q l e. get_or-take 4 _ j 0 l ∙ get_or-drop (4 * i) bs j 0 ∙ ap (λ k. get_or bs k 0) e in
    rw (four_at (length bs / 4) bs i d h, byte 0 (4 * i) (omega arith) (omega arith), byte 1 (4 * i + 1) (omega arith) refl)
    (rw (byte 2 (4 * i + 2) (omega arith) refl, byte 3 (4 * i + 3) (omega arith) refl) (omega arith))

-- ---- what a write leaves: another word at one index, all else as it was

module _ (bs : List ℕ) (p w : ℕ) (fits : p + 3 < length bs) where
  at_0 : get_or (four_set bs p w) p 0 ≡ w % 256
  at_0 =
      let n1 : p ≢ p + 1 = omega arith in
      let n2 : p ≢ p + 2 = omega arith in
      let n3 : p ≢ p + 3 = omega arith in
      let l : p < length bs = omega arith in
      simp (get_or-set_other, get_or-set_same)

  at_1 : get_or (four_set bs p w) (p + 1) 0 ≡ w / 256 % 256
  at_1 =
      let n2 : p + 1 ≢ p + 2 = omega arith in
      let n3 : p + 1 ≢ p + 3 = omega arith in
      let l : p + 1 < length (set bs p (w % 256)) = simp length-set (omega arith) in
      simp (get_or-set_other, get_or-set_same)

  at_2 : get_or (four_set bs p w) (p + 2) 0 ≡ w / 65536 % 256
  at_2 =
      let n3 : p + 2 ≢ p + 3 = omega arith in
      let l : p + 2 < length (set (set bs p (w % 256)) (p + 1) (w / 256 % 256)) = simp length-set (omega arith) in
      simp (get_or-set_other, get_or-set_same)

  at_3 : get_or (four_set bs p w) (p + 3) 0 ≡ w / 16777216
  at_3 =
      let l : p + 3 < length (set (set (set bs p (w % 256)) (p + 1) (w / 256 % 256)) (p + 2) (w / 65536 % 256)) = simp length-set (omega arith) in
      simp get_or-set_same

at_other : (bs : List ℕ) (p w q : ℕ) → q ≢ p → q ≢ p + 1 → q ≢ p + 2 → q ≢ p + 3 → get_or (four_set bs p w) q 0 ≡ get_or bs q 0
at_other bs p w q n0 n1 n2 n3 = simp get_or-set_other

length_four : (bs : List ℕ) (p w : ℕ) → length (four_set bs p w) ≡ length bs
length_four bs p w = simp length-set

whole : (w : ℕ) → w % 256 + 256 * (w / 256 % 256) + 65536 * (w / 65536 % 256) + 16777216 * (w / 16777216) ≡ w
whole w = omega arith

word_here : (bs : List ℕ) (i w : ℕ) → i < length bs / 4 → word_at (four_set bs (4 * i) w) i ≡ w
word_here bs i w h =
    let f : 4 * i + 3 < length bs = omega arith in
    rw (at_0 bs (4 * i) w f, at_1 bs (4 * i) w f, at_2 bs (4 * i) w f, at_3 bs (4 * i) w f) (whole w)

word-there : (bs : List ℕ) (i w j : ℕ) → j ≢ i → word_at (four_set bs (4 * i) w) j ≡ word_at bs j
word-there bs i w j ne =
    let e0 = at_other bs (4 * i) w (4 * j) (omega arith) (omega arith) (omega arith) (omega arith) in
    let e1 = at_other bs (4 * i) w (4 * j + 1) (omega arith) (omega arith) (omega arith) (omega arith) in
    let e2 = at_other bs (4 * i) w (4 * j + 2) (omega arith) (omega arith) (omega arith) (omega arith) in
    let e3 = at_other bs (4 * i) w (4 * j + 3) (omega arith) (omega arith) (omega arith) (omega arith) in
    rw (e0, e1, e2, e3)

pub words_four : (bs : List ℕ) (i w : ℕ) → i < length bs / 4 → words_of (four_set bs (4 * i) w) ≡ set (words_of bs) i w
words_four bs i w h =
    let cs : List ℕ = four_set bs (4 * i) w in
    let same : length cs / 4 ≡ length bs / 4 = ap (λ n. n / 4) (length_four bs (4 * i) w) in
    let before = length-words bs in
    let after = length-words cs in
    ext_get_or 0 _ _ (after ∙ same ∙ sym before ∙ sym (length-set (words_of bs) i w))
    (λ k l.
    get_d_words cs k (omega arith) ∙
    ⊎_elim {C = word_at cs k ≡ get_or (set (words_of bs) i w) k 0}
    (λ e. rw e (word_here bs i w h ∙ sym (get_or-set_same (words_of bs) i w 0 (omega arith))))
    (λ ne. word-there bs i w k ne ∙ sym (get_d_words bs k (omega arith)) ∙ sym (get_or-set_other (words_of bs) i k w 0 ne))
    (cases_eq k i))

pub spare_four : (bs : List ℕ) (i w : ℕ) → i < length bs / 4 → spare_of (four_set bs (4 * i) w) ≡ spare_of bs
unfolding spare_of
spare_four bs i w h =
    let n : ℕ = 4 * (length bs / 4) in
    let l0 : 4 * i < n = omega arith in
    let l1 : 4 * i + 1 < n = omega arith in
    let l2 : 4 * i + 2 < n = omega arith in
    let l3 : 4 * i + 3 < n = omega arith in
    rw length_four (simp drop-set-lt)

-- ---- bytes are their words and then their spare bytes

four_of : (a b c d : ℕ) → a < 256 → b < 256 → c < 256 → four_bytes (a + 256 * b + 65536 * c + 16777216 * d) ≡ a ∷ b ∷ c ∷ d ∷ []
four_of a b c d la lb lc =
    let w : ℕ = a + 256 * b + 65536 * c + 16777216 * d in
    let q1 : w / 256 ≡ b + 256 * c + 65536 * d = omega arith in
    let q2 : w / 65536 ≡ c + 256 * d = omega arith in
    let e0 : w % 256 ≡ a = omega arith in
    let r1 : (b + 256 * c + 65536 * d) % 256 ≡ b = omega arith in
    let r2 : (c + 256 * d) % 256 ≡ c = omega arith in
    let e1 : w / 256 % 256 ≡ b = ap (λ n. n % 256) q1 ∙ r1 in
    let e2 : w / 65536 % 256 ≡ c = ap (λ n. n % 256) q2 ∙ r2 in
    let e3 : w / 16777216 ≡ d = omega arith in
    rw (e0, e1, e2, e3)

drop_four : (bs : List ℕ) (p : ℕ) → p + 3 < length bs → drop p bs ≡ get_or bs p 0 ∷ get_or bs (p + 1) 0 ∷ get_or bs (p + 2) 0 ∷ get_or bs (p + 3) 0 ∷ drop (p + 4) bs
drop_four bs p l =
    let one : (q r : ℕ) → q + 1 ≡ r → q < length bs → drop q bs ≡ get_or bs q 0 ∷ drop r bs =
    λ q r e m. drop_more bs q 0 m ∙ ap (λ k. get_or bs q 0 ∷ drop k bs) e in
    rw (one p (p + 1) refl (omega arith), one (p + 1) (p + 2) (omega arith) (omega arith), one (p + 2) (p + 3) (omega arith) (omega arith), one (p + 3) (p + 4) (omega arith) l)

module _ (bs : List ℕ) (small : (k : ℕ) → k < length bs → get_or bs k 0 < 256) where
  four_back : (i : ℕ) → 4 * i + 3 < length bs → four_bytes (word_at bs i) ++ drop (4 * i + 4) bs ≡ drop (4 * i) bs
  four_back i l =
      ap (λ four. four ++ drop (4 * i + 4) bs)
      (four_of (get_or bs (4 * i) 0) (get_or bs (4 * i + 1) 0) (get_or bs (4 * i + 2) 0) (get_or bs (4 * i + 3) 0) (small _ (omega arith)) (small _ (omega arith)) (small _ (omega arith)))
      ∙ sym (drop_four bs (4 * i) l)

  words_back : (n i m : ℕ) → i + n ≡ m → 4 * m ≤ length bs → flat_map four_bytes (map (word_at bs) (range_with_len i n)) ++ drop (4 * m) bs ≡ drop (4 * i) bs
  words_back zero i m e l = let same : m ≡ i = omega arith in rw same
  words_back (suc n) i m e l =
      let next : 4 * (i + 1) ≡ 4 * i + 4 = omega arith in
      ap (λ rest. four_bytes (word_at bs i) ++ rest) (words_back n (i + 1) m (omega arith) l ∙ ap (λ k. drop k bs) next)
      ∙ four_back i (omega arith)

  pub bytes_back : bs ≡ bytes_of (words_of bs) ++ spare_of bs
  unfolding words_of bytes_of spare_of
  bytes_back = sym (words_back (length bs / 4) 0 (length bs / 4) (omega arith) (omega arith))

-- ---- a write of the bytes is one of the words

pub done-words : (bs : List ℕ) (i : ℕ) → word_done bs i ≡ write_at (words_of bs) i
done-words bs i = rw length-words

pub words-written : (bs : List ℕ) (i w : ℕ) → words_of (word_written bs i w) ≡ set (words_of bs) i w
words-written bs i w =
    cond_both (ltb i (length bs / 4)) (four_set bs (4 * i) w) bs (λ cs. words_of cs ≡ set (words_of bs) i w)
    (λ e. words_four bs i w (ltb-true i (length bs / 4) e))
    (λ e. sym (set_past (words_of bs) i w (omega (arith, length-words bs, ltb-false i (length bs / 4) e))))

pub spare-written : (bs : List ℕ) (i w : ℕ) → spare_of (word_written bs i w) ≡ spare_of bs
spare-written bs i w =
    cond_both (ltb i (length bs / 4)) (four_set bs (4 * i) w) bs (λ cs. spare_of cs ≡ spare_of bs)
    (λ e. spare_four bs i w (ltb-true i (length bs / 4) e))
    (λ e. refl)

-- what the functions of a ByteStore need of these
pub ruleset held_words = (length-words, word_of_four)
