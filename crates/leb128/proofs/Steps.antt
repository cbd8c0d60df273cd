-- One byte of a number: what `decode`, `follow` and `groups` say of it, and the bounds of what they
-- give. Each function goes byte by byte, so each lemma is one case of its definition.
use Rattle.std.proofs.Common.{◌≡◌, ℕ, zero, suc, ◌+◌, ◌-◌, ◌*◌, ◌/◌, ◌%◌, ◌^◌, ◌<◌, ◌≤◌, ◌&&◌, eqb, ltb, List, [], ◌∷◌, length, get_or, take, drop, Ok, Err, sym, refl, ap, ◌∙◌, subst, arith}
use Rattle.std.proofs.lemmas.List.{take_rest}
use Rattle.std.proofs.lemmas.Bool.Decides.{nat_tests}
use Rattle.std.proofs.lemmas.Bool.{cond_both}
use Rattle.leb128.specs.declared.Fault.TheVariants.{NotShortest, TooWide}
use Rattle.leb128.specs.Number.{Decoded, joined, follow, decode, groups, limit}

-- every element is a byte
abbrev pub Bytes : List ℕ → Type 0
Bytes bs = (i : ℕ) → get_or bs i 0 < 256

-- a value below the limit, in at most left + 1 bytes
abbrev pub Bounded : ℕ → Decoded → Type 0
Bounded left (Ok p) = (p.0 < limit left) × (1 ≤ p.1) × (p.1 ≤ left + 1)
Bounded left (Err f) = Unit {0}

joined_bounded : (b left : ℕ) (r : Decoded) → b < 256 → 0 < left → left ≤ 4 → Bounded (left - 1) r → Bounded left (joined b r)
joined_bounded b left (Ok p) lt h k s = (grind (arith, nat_tests), omega arith, omega arith)
joined_bounded b left (Err f) lt h k s = tt

pub follow_bounded : (bs : List ℕ) (left : ℕ) → Bytes bs → left ≤ 4 → Bounded left (follow bs left)
follow_bounded [] left ty k = tt
follow_bounded (b ∷ bs) left ty k =
    let P : Decoded → Type 0 = Bounded left in
    cond_both (eqb b 0) _ _ P (λ _. tt)
    (λ z. cond_both (eqb left 0 && ltb 15 b) _ _ P (λ _. tt)
    (λ w. cond_both (ltb b 128) _ _ P (λ t. (grind (arith, nat_tests), omega arith, omega arith))
    (λ t.
    let up : 0 < left = grind (arith, nat_tests) in
    joined_bounded b left (follow bs (left - 1)) (ty 0) up (omega arith) (follow_bounded bs (left - 1) (λ i. ty (suc i)) (omega arith)))))

pub follow_zero : (bs : List ℕ) (left : ℕ) → 1 ≤ length bs → get_or bs 0 0 ≡ 0 → follow bs left ≡ Err NotShortest
follow_zero [] left h z = absurd (omega arith)
follow_zero (b ∷ bs) left h z = grind (arith, nat_tests)

pub follow_wide : (bs : List ℕ) → 1 ≤ length bs → 15 < get_or bs 0 0 → follow bs 0 ≡ Err TooWide
follow_wide [] h z = absurd (omega arith)
follow_wide (b ∷ bs) h z = grind (arith, nat_tests)

pub follow_more : (bs : List ℕ) (left : ℕ) → 1 ≤ length bs → 128 ≤ get_or bs 0 0 → 0 < left →
    follow bs left ≡ joined (get_or bs 0 0) (follow (drop 1 bs) (left - 1))
follow_more [] left h b k = absurd (omega arith)
follow_more (x ∷ bs) left h b k = grind (arith, nat_tests)

pub decode_more : (bs : List ℕ) → 1 ≤ length bs → 128 ≤ get_or bs 0 0 →
    decode bs ≡ joined (get_or bs 0 0) (follow (drop 1 bs) 3)
decode_more [] h b = absurd (omega arith)
decode_more (x ∷ bs) h b = grind (arith, nat_tests)

pub decode-one : (bs : List ℕ) → 1 ≤ length bs → get_or bs 0 0 < 128 → Ok (get_or bs 0 0, 1) ≡ decode bs
decode-one [] h l = absurd (omega arith)
decode-one (b ∷ bs) h l = grind (arith, nat_tests)

pub decode_two : (bs : List ℕ) → 2 ≤ length bs → 128 ≤ get_or bs 0 0 → 0 < get_or bs 1 0 → get_or bs 1 0 < 128 →
    Ok (get_or bs 0 0 - 128 + 128 * get_or bs 1 0, 2) ≡ decode bs
decode_two [] h a p l = absurd (omega arith)
decode_two (x ∷ []) h a p l = absurd (omega arith)
decode_two (x ∷ y ∷ bs) h a p l = grind (arith, nat_tests)

-- a number of several bytes, from its first one on
pub decode-follow : (bs : List ℕ) → 1 ≤ length bs → 128 ≤ get_or bs 0 0 → follow bs 4 ≡ decode bs
decode-follow bs h b = follow_more bs 4 h b (omega arith) ∙ sym (decode_more bs h b)

-- the bytes after the first as a slice pattern names them
pub follow_rest : (bs : List ℕ) (left : ℕ) (r : Decoded) → 1 ≤ length bs → 128 ≤ get_or bs 0 0 → 0 < left →
    r ≡ follow (take (length bs - 1) (drop 1 bs)) (left - 1) → joined (get_or bs 0 0) r ≡ follow bs left
follow_rest bs left r h b k e =
    ap (joined (get_or bs 0 0)) (e ∙ ap (λ x. follow x (left - 1)) (take_rest bs 1)) ∙ sym (follow_more bs left h b k)

-- values as the code has them
pub follow_fits : (bs : List ℕ) (left v n : ℕ) → Bytes bs → left ≤ 4 → Ok (v, n) ≡ follow bs left → (v < 2 ^ 32) × (n ≤ 5)
follow_fits bs left v n ty k e =
    let s : Bounded left (Ok (v, n)) = subst (Bounded left) (sym e) (follow_bounded bs left ty k) in
    let low : v < limit left = s.0 in
    (grind (arith, nat_tests), omega (arith, s.2))

pub groups-one : (left n : ℕ) → n < 128 → groups left n ≡ n ∷ []
groups-one zero n h = refl
groups-one (suc k) n h = grind (arith, nat_tests)

pub groups_more : (left n : ℕ) → n < limit left → 128 ≤ n → groups left n ≡ (128 + n % 128) ∷ groups (left - 1) (n / 128)
groups_more zero n l h = absurd (omega arith)
groups_more (suc k) n l h =
    let e : suc k - 1 ≡ k = omega arith in rw e (grind (arith, nat_tests))

pub lower : (left n : ℕ) → n < limit left → 128 ≤ n → (n / 128 < limit (left - 1)) × (0 < left)
lower left n l h = (grind (arith, nat_tests), grind (arith, nat_tests))
