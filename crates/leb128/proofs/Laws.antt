-- Reading and writing belong together: a written number is read back whatever follows, and what is
-- read was written so. Both go byte by byte along `groups`; the limits say which bytes may follow.
use Rattle.std.proofs.Common.{◌≡◌, ℕ, zero, suc, ◌+◌, ◌-◌, ◌*◌, ◌/◌, ◌%◌, ◌^◌, ◌<◌, ◌≤◌, ◌&&◌, eqb, ltb, List, [], ◌∷◌, ◌++◌, length, take, drop, set, Ok, Err, sym, ap, ◌∙◌, subst, ⊎_elim, append_assoc, add-zero, add-one, arith, length-append, length-drop, length-set, take-suc-set, drop-set-lt}
use Rattle.std.proofs.lemmas.List.{take-append-drop, drop-drop}
use Rattle.std.proofs.lemmas.Bool.Decides.{nat_tests}
use Rattle.std.proofs.lemmas.Bool.{cond_both, cases_lt}
use Rattle.leb128.specs.Number.{Decoded, joined, follow, decode, groups, encode, limit, group_count, from, read_at, replaced, overwritten}
use Rattle.leb128.specs.Laws.{ReadsBack, Canonical}
use Rattle.leb128.proofs.Steps.{Bytes, follow_more, decode_more, groups-one, groups_more, lower}

follow-groups : (k n : ℕ) (rest : List ℕ) → 0 < n → n < limit k → follow (groups k n ++ rest) k ≡ Ok (n, length (groups k n))
follow-groups zero n rest p l = grind (arith, nat_tests)
follow-groups (suc k) n rest p l =
    ⊎_elim (λ lt. rw (groups-one (suc k) n lt) (grind (arith, nat_tests)))
    (λ ge.
    let s : suc k - 1 ≡ k = omega arith in
    let e : groups (suc k) n ≡ (128 + n % 128) ∷ groups k (n / 128) = grind (arith, nat_tests) in
    let low : n / 128 < limit k = subst (λ j. n / 128 < limit j) s (lower (suc k) n l ge).0 in
    let ih : follow (groups k (n / 128) ++ rest) k ≡ Ok (n / 128, length (groups k (n / 128))) =
    follow-groups k (n / 128) rest (omega arith) low in
    let m : follow ((128 + n % 128) ∷ (groups k (n / 128) ++ rest)) (suc k) ≡ joined (128 + n % 128) (follow (groups k (n / 128) ++ rest) (suc k - 1)) =
    follow_more ((128 + n % 128) ∷ (groups k (n / 128) ++ rest)) (suc k) (omega arith) (omega arith) (omega arith) in
    let a : 128 + n % 128 - 128 + 128 * (n / 128) ≡ n = omega arith in
    let b : length (groups k (n / 128)) + 1 ≡ suc (length (groups k (n / 128))) = omega arith in
    rw e (m ∙ rw s (rw ih (cc (a, b)))))
    (cases_lt n 128)

pub decode-encode : (n : ℕ) (rest : List ℕ) → n < 2 ^ 32 → decode (encode n ++ rest) ≡ Ok (n, length (encode n))
unfolding encode
decode-encode n rest l =
    ⊎_elim (λ lt. rw (groups-one 4 n lt) (grind (arith, nat_tests)))
    (λ ge.
    let e : groups 4 n ≡ (128 + n % 128) ∷ groups 3 (n / 128) = grind (arith, nat_tests) in
    let ih : follow (groups 3 (n / 128) ++ rest) 3 ≡ Ok (n / 128, length (groups 3 (n / 128))) =
    follow-groups 3 (n / 128) rest (omega arith) (lower 4 n l ge).0 in
    let a : 128 + n % 128 - 128 + 128 * (n / 128) ≡ n = omega arith in
    let b : length (groups 3 (n / 128)) + 1 ≡ suc (length (groups 3 (n / 128))) = omega arith in
    let d : decode ((128 + n % 128) ∷ (groups 3 (n / 128) ++ rest)) ≡ joined (128 + n % 128) (follow (groups 3 (n / 128) ++ rest) 3) =
    decode_more ((128 + n % 128) ∷ (groups 3 (n / 128) ++ rest)) (omega arith) (omega arith) in
    rw e (d ∙ rw ih (cc (a, b))))
    (cases_lt n 128)

pub reads_back : (bs : List ℕ) (at : ℕ) → ReadsBack bs at (read_at bs at)
unfolding read_at
reads_back bs at n rest l e = ap (λ xs. from at (decode xs)) e ∙ ap (from at) (decode-encode n rest l)

-- what is read from bs is the form of its value in at most k + 1 groups
abbrev Formed : ℕ → List ℕ → Decoded → Type 0
Formed k bs (Ok p) = (bs ≡ groups k p.0 ++ drop p.1 bs) × (p.1 ≡ length (groups k p.0)) × (0 < p.0) × (p.0 < limit k)
Formed k bs (Err f) = Unit {0}

formed_last : (b k : ℕ) (bs : List ℕ) → 0 < b → b < 128 → b < limit k → Formed k (b ∷ bs) (Ok (b, 1))
formed_last b k bs p l m =
    (ap (λ xs. xs ++ bs) (sym (groups-one k b l)), ap length (sym (groups-one k b l)), p, m)

formed_more : (b k : ℕ) (bs : List ℕ) (r : Decoded) → 128 ≤ b → b < 256 → 0 < k → k ≤ 4 → Formed (k - 1) bs r → Formed k (b ∷ bs) (joined b r)
formed_more b k bs (Err f) h l p m c = tt
formed_more b k bs (Ok q) h l p m c =
    let low : q.0 < limit (k - 1) = c.3 in
    let pos : 0 < q.0 = c.2 in
    let lim : b - 128 + 128 * q.0 < limit k = grind (arith, nat_tests) in
    let d : (b - 128 + 128 * q.0) / 128 ≡ q.0 = omega arith in
    let e : 128 + (b - 128 + 128 * q.0) % 128 ≡ b = omega arith in
    let g : groups k (b - 128 + 128 * q.0) ≡ b ∷ groups (k - 1) q.0 =
    groups_more k _ lim (omega arith) ∙ rw (d, e) in
    (rw (g, add-one) (ap (λ xs. b ∷ xs) c.0), rw (g, add-one) (ap suc c.1), omega arith, lim)

follow_formed : (bs : List ℕ) (k : ℕ) → Bytes bs → k ≤ 3 → Formed k bs (follow bs k)
follow_formed [] k ty m = tt
follow_formed (b ∷ bs) k ty m =
    let P : Decoded → Type 0 = Formed k (b ∷ bs) in
    cond_both (eqb b 0) _ _ P (λ _. tt)
    (λ z. cond_both (eqb k 0 && ltb 15 b) _ _ P (λ _. tt)
    (λ w. cond_both (ltb b 128) _ _ P (λ t. formed_last b k bs (grind (arith, nat_tests)) (grind (arith, nat_tests)) (grind (arith, nat_tests)))
    (λ t.
    let big : 128 ≤ b = grind (arith, nat_tests) in
    let up : 0 < k = grind (arith, nat_tests) in
    formed_more b k bs (follow bs (k - 1)) big (ty 0) up (omega arith) (follow_formed bs (k - 1) (λ i. ty (suc i)) (omega arith)))))

-- the same of a whole number
abbrev Whole : List ℕ → Decoded → Type 0
Whole bs (Ok p) = (bs ≡ encode p.0 ++ drop p.1 bs) × (p.1 ≡ length (encode p.0)) × (p.0 < 2 ^ 32)
Whole bs (Err f) = Unit {0}

formed_whole : (bs : List ℕ) (r : Decoded) → Formed 4 bs r → Whole bs r
unfolding encode
formed_whole bs (Ok p) c = (c.0, c.1, c.3)
formed_whole bs (Err f) c = tt

decode-whole : (bs : List ℕ) → Bytes bs → Whole bs (decode bs)
unfolding encode
decode-whole [] ty = tt
decode-whole (b ∷ bs) ty =
    cond_both (ltb b 128) _ _ (Whole (b ∷ bs))
    (λ t.
    let l : b < 128 = grind (arith, nat_tests) in
    (ap (λ xs. xs ++ bs) (sym (groups-one 4 b l)), ap length (sym (groups-one 4 b l)), omega arith))
    (λ t.
    let big : 128 ≤ b = grind (arith, nat_tests) in
    formed_whole (b ∷ bs) (joined b (follow bs 3)) (formed_more b 4 bs (follow bs 3) big (ty 0) (omega arith) (omega arith) (follow_formed bs 3 (λ i. ty (suc i)) (omega arith))))

-- a number takes a byte for each of its groups
pub encode-count : (n : ℕ) → group_count n ≡ length (encode n)
unfolding encode
encode-count n = grind (arith, nat_tests)

pub encode-length : (n : ℕ) → (1 ≤ length (encode n)) × (length (encode n) ≤ 5)
unfolding encode
encode-length n = (grind (arith, nat_tests), grind (arith, nat_tests))

pub bytes_drop : (bs : List ℕ) (at : ℕ) → Bytes bs → Bytes (drop at bs)
bytes_drop bs zero ty i = ty i
bytes_drop [] (suc at) ty i = ty i
bytes_drop (b ∷ bs) (suc at) ty i = bytes_drop bs at (λ j. ty (suc j)) i

pub canonical : (bs : List ℕ) (at : ℕ) → Bytes bs → Canonical bs at (read_at bs at)
unfolding read_at
canonical bs at ty = by (decode (drop at bs)) (decode-whole (drop at bs) (bytes_drop bs at ty))
  where
    by : (r : Decoded) → Whole (drop at bs) r → Canonical bs at (from at r)
    by (Ok p) w =
        let e : drop at bs ≡ encode p.0 ++ drop (at + p.1) bs = w.0 ∙ ap (λ xs. encode p.0 ++ xs) (drop-drop p.1 at bs) in
        let n = encode-length p.0 in
        let s : length bs - at ≡ length (encode p.0) + (length bs - (at + p.1)) =
        sym (length-drop at bs) ∙ ap length e ∙ length-append (encode p.0) (drop (at + p.1) bs) ∙ ap (λ x. length (encode p.0) + x) (length-drop (at + p.1) bs) in
        (w.2, e, omega (arith, w.1), omega (arith, w.1), omega (arith, w.1))
    by (Err f) w = tt

-- setting bytes one after another is putting them in place of those that stood there
pub replaced_is : (bs out : List ℕ) (at : ℕ) → at + length bs ≤ length out → replaced out at bs ≡ overwritten out at bs
replaced_is [] out at h = rw add-zero (sym (take-append-drop at out))
replaced_is (b ∷ bs) out at h =
    let lt : at < length out = omega arith in
    let room : at + 1 + length bs ≤ length (set out at b) = simp length-set (omega arith) in
    let s : at + 1 ≡ suc at = omega arith in
    let past : at < at + 1 + length bs = omega arith in
    let same : at + 1 + length bs ≡ at + suc (length bs) = omega arith in
    let t : take (at + 1) (set out at b) ≡ take at out ++ (b ∷ []) = rw s (take-suc-set out at b lt) in
    let d : drop (at + 1 + length bs) (set out at b) ≡ drop (at + suc (length bs)) out = drop-set-lt _ out at b past ∙ rw same in
    replaced_is bs (set out at b) (at + 1) room ∙ rw (t, d) (rw append_assoc)
