-- Each fault comes exactly on its condition: both the reader and the condition go along the bytes
-- with the top bit set, and part at the first byte without it or at the fifth.
use Rattle.std.proofs.Common.{◌≡◌, ℕ, zero, suc, ◌+◌, ◌-◌, ◌*◌, ◌<◌, ◌≤◌, ◌&&◌, eqb, ltb, ◌⊎◌, List, [], ◌∷◌, length, get_or, take, drop, Ok, Err, Result, sym, refl, ap, ◌∙◌, subst, ap₂, inl, inr, ⊎_elim, add-zero, arith, length-drop, get_or-drop}
use Rattle.std.proofs.lemmas.List.{take_rest, drop_all}
use Rattle.std.proofs.lemmas.Bool.Decides.{nat_tests}
use Rattle.std.proofs.lemmas.Bool.{cond_both}
use Rattle.leb128.specs.declared.Fault.{Fault}
use Rattle.leb128.specs.declared.Fault.TheVariants.{EndsEarly, NotShortest, TooWide}
use Rattle.leb128.specs.declared.Number.{Number}
use Rattle.leb128.specs.Number.{Decoded, joined, follow, decode, from, read_at}
use Rattle.leb128.specs.Laws.{Continue, Fails, FaultsExactly, Reading}
use Rattle.leb128.proofs.Steps.{Bytes, follow_zero, follow_wide, follow_more, decode-one, decode_two, decode_more, decode-follow}
use Rattle.leb128.proofs.Laws.{reads_back, canonical}

-- the condition of a fault among the bytes after the first, of which `left` may follow the next
abbrev Stops : ℕ → Fault → List ℕ → Type 0
Stops left EndsEarly bs = (length bs ≤ left) × Continue (length bs) bs
Stops left NotShortest bs = (k : ℕ) × (k ≤ left) × Continue k bs × (k < length bs) × (get_or bs k 0 ≡ 0)
Stops left TooWide bs = Continue left bs × (left < length bs) × (15 < get_or bs left 0)

continue_more : (b k : ℕ) (bs : List ℕ) → 128 ≤ b → Continue k bs → Continue (suc k) (b ∷ bs)
continue_more b k bs h c = (omega (arith, c.0), at)
  where
    at : (i : ℕ) → i < suc k → 128 ≤ get_or (b ∷ bs) i 0
    at zero l = h
    at (suc i) l = c.1 i (omega arith)

continue_less : (b k : ℕ) (bs : List ℕ) → Continue (suc k) (b ∷ bs) → (128 ≤ b) × Continue k bs
continue_less b k bs c = (c.1 0 (omega arith), (omega (arith, c.0), λ i l. c.1 (suc i) (omega arith)))

stops_more : (b left : ℕ) (f : Fault) (bs : List ℕ) → 128 ≤ b → Stops left f bs → Stops (suc left) f (b ∷ bs)
stops_more b left EndsEarly bs h s = (omega (arith, s.0), continue_more b (length bs) bs h s.1)
stops_more b left NotShortest bs h (k, low, c, inside, z) = (suc k, omega arith, continue_more b k bs h c, omega arith, z)
stops_more b left TooWide bs h s = (continue_more b left bs h s.0, omega (arith, s.1), s.2)

-- the first byte is a 0 after others, or says that more follow
stops_less : (b left : ℕ) (f : Fault) (bs : List ℕ) → Stops (suc left) f (b ∷ bs) → ((b ≡ 0) × (f ≡ NotShortest)) ⊎ ((128 ≤ b) × Stops left f bs)
stops_less b left EndsEarly bs s =
    let c = continue_less b (length bs) bs s.1 in inr (c.0, (omega (arith, s.0), c.1))
stops_less b left NotShortest bs (zero, low, c, inside, z) = inl (z, refl)
stops_less b left NotShortest bs (suc k, low, c, inside, z) =
    let d = continue_less b k bs c in inr (d.0, (k, omega arith, d.1, omega arith, z))
stops_less b left TooWide bs s =
    let c = continue_less b left bs s.0 in inr (c.0, (c.1, omega (arith, s.1), s.2))

-- what a result says of the bytes if it is a fault
abbrev Faulty : (Fault → Type 0) → Decoded → Type 0
Faulty P (Ok p) = Unit {0}
Faulty P (Err f) = P f

joined_faulty : (b : ℕ) (P Q : Fault → Type 0) (r : Decoded) → ((f : Fault) → P f → Q f) → Faulty P r → Faulty Q (joined b r)
joined_faulty b P Q (Ok p) to h = tt
joined_faulty b P Q (Err f) to h = to f h

follow_faulty : (bs : List ℕ) (left : ℕ) → Faulty (λ f. Stops left f bs) (follow bs left)
follow_faulty [] left = (omega arith, (omega arith, λ i l. absurd (omega arith)))
follow_faulty (b ∷ bs) zero =
    let P : Decoded → Type 0 = Faulty (λ f. Stops 0 f (b ∷ bs)) in
    cond_both (eqb b 0) _ _ P (λ z. (0, omega arith, (omega arith, λ i l. absurd (omega arith)), omega arith, grind (arith, nat_tests)))
    (λ z. cond_both (eqb 0 0 && ltb 15 b) _ _ P (λ w. ((omega arith, λ i l. absurd (omega arith)), omega arith, grind (arith, nat_tests)))
    (λ w. cond_both (ltb b 128) _ _ P (λ t. tt) (λ t. absurd (grind (arith, nat_tests)))))
follow_faulty (b ∷ bs) (suc left) =
    let P : Decoded → Type 0 = Faulty (λ f. Stops (suc left) f (b ∷ bs)) in
    cond_both (eqb b 0) _ _ P (λ z. (0, omega arith, (omega arith, λ i l. absurd (omega arith)), omega arith, grind (arith, nat_tests)))
    (λ z. cond_both (eqb (suc left) 0 && ltb 15 b) _ _ P (λ w. absurd (grind (arith, nat_tests)))
    (λ w. cond_both (ltb b 128) _ _ P (λ t. tt)
    (λ t.
    let s : suc left - 1 ≡ left = omega arith in
    let big : 128 ≤ b = grind (arith, nat_tests) in
    rw s (joined_faulty b (λ f. Stops left f bs) (λ f. Stops (suc left) f (b ∷ bs)) (follow bs left) (λ f. stops_more b left f bs big) (follow_faulty bs left)))))

follow_stops : (bs : List ℕ) (left : ℕ) (f : Fault) → Stops left f bs → follow bs left ≡ Err f
follow_stops [] left EndsEarly s = refl
follow_stops [] left NotShortest (k, low, c, inside, z) = absurd (omega arith)
follow_stops [] left TooWide s = absurd (omega (arith, s.1))
follow_stops (b ∷ bs) zero EndsEarly s = absurd (omega (arith, s.0))
follow_stops (b ∷ bs) zero NotShortest (zero, low, c, inside, z) = follow_zero (b ∷ bs) 0 (omega arith) z
follow_stops (b ∷ bs) zero NotShortest (suc k, low, c, inside, z) = absurd (omega arith)
follow_stops (b ∷ bs) zero TooWide s = follow_wide (b ∷ bs) (omega arith) s.2
follow_stops (b ∷ bs) (suc left) f s =
    ⊎_elim
    (λ z. follow_zero (b ∷ bs) (suc left) (omega arith) z.0 ∙ ap Err (sym z.1))
    (λ m.
    let e : suc left - 1 ≡ left = omega arith in
    follow_more (b ∷ bs) (suc left) (omega arith) m.0 (omega arith) ∙ rw e (ap (joined b) (follow_stops bs left f m.1)))
    (stops_less b left f bs s)

-- the same at the first byte, which may be 0
fails_more : (b : ℕ) (f : Fault) (bs : List ℕ) → 128 ≤ b → Stops 3 f bs → Fails f (b ∷ bs)
fails_more b EndsEarly bs h s = stops_more b 3 EndsEarly bs h s
fails_more b NotShortest bs h (k, low, c, inside, z) = (suc k, omega arith, omega arith, continue_more b k bs h c, omega arith, z)
fails_more b TooWide bs h s = stops_more b 3 TooWide bs h s

fails_less : (b : ℕ) (f : Fault) (bs : List ℕ) → Fails f (b ∷ bs) → (128 ≤ b) × Stops 3 f bs
fails_less b EndsEarly bs s =
    let c = continue_less b (length bs) bs s.1 in (c.0, (omega (arith, s.0), c.1))
fails_less b NotShortest bs (zero, pos, low, c, inside, z) = absurd (omega arith)
fails_less b NotShortest bs (suc k, pos, low, c, inside, z) =
    let d = continue_less b k bs c in (d.0, (k, omega arith, d.1, omega arith, z))
fails_less b TooWide bs s =
    let c = continue_less b 3 bs s.0 in (c.0, (c.1, omega (arith, s.1), s.2))

decode_faulty : (bs : List ℕ) → Faulty (λ f. Fails f bs) (decode bs)
decode_faulty [] = (omega arith, (omega arith, λ i l. absurd (omega arith)))
decode_faulty (b ∷ bs) =
    cond_both (ltb b 128) _ _ (Faulty (λ f. Fails f (b ∷ bs))) (λ t. tt)
    (λ t.
    let big : 128 ≤ b = grind (arith, nat_tests) in
    joined_faulty b (λ f. Stops 3 f bs) (λ f. Fails f (b ∷ bs)) (follow bs 3) (λ f. fails_more b f bs big) (follow_faulty bs 3))

decode_fails : (bs : List ℕ) (f : Fault) → Fails f bs → decode bs ≡ Err f
decode_fails [] EndsEarly s = refl
decode_fails [] NotShortest (k, pos, low, c, inside, z) = absurd (omega arith)
decode_fails [] TooWide s = absurd (omega (arith, s.1))
decode_fails (b ∷ bs) f s =
    let m = fails_less b f bs s in
    decode_more (b ∷ bs) (omega arith) m.0 ∙ ap (joined b) (follow_stops bs 3 f m.1)

from_err : (at : ℕ) (f : Fault) (r : Decoded) → from at r ≡ Err f → r ≡ Err f
from_err at f (Ok p) e = let z : ◌≡◌ {A = ℕ} 0 1 = cc in absurd (omega arith)
from_err at f (Err g) e = cc

exact : (bs : List ℕ) (at : ℕ) → FaultsExactly bs at (read_at bs at)
unfolding read_at
exact bs at f = (
  (λ e. subst (Faulty (λ g. Fails g (drop at bs))) (from_err at f (decode (drop at bs)) e) (decode_faulty (drop at bs))),
  λ s. ap (from at) (decode_fails (drop at bs) f s),
)

-- what the code has: nothing at or past the end, and else what the bytes from the position on begin with
pub read_past : (bs : List ℕ) (at : ℕ) → length bs ≤ at → Err EndsEarly ≡ read_at bs at
unfolding read_at
read_past bs at h = rw (drop_all at bs h)

first_at : (bs : List ℕ) (at : ℕ) → at < length bs → (1 ≤ length (drop at bs)) × (get_or (drop at bs) 0 0 ≡ get_or bs at 0)
first_at bs at h = (simp length-drop (omega arith), get_or-drop at bs 0 0 ∙ ap (λ i. get_or bs i 0) (add-zero at))

pub read_one : (bs : List ℕ) (at : ℕ) → at < length bs → get_or bs at 0 < 128 → Ok (record { value = get_or bs at 0; next = at + 1 }) ≡ read_at bs at
unfolding read_at
read_one bs at h l =
    let f = first_at bs at h in
    let e : Ok (get_or bs at 0, 1) ≡ decode (drop at bs) = subst (λ v. Ok (v, 1) ≡ decode (drop at bs)) f.1 (decode-one (drop at bs) f.0 (omega (arith, f.1))) in
    ap (from at) e

pub read_two : (bs : List ℕ) (at : ℕ) → at + 1 < length bs → 128 ≤ get_or bs at 0 → 0 < get_or bs (at + 1) 0 → get_or bs (at + 1) 0 < 128 →
    Ok (record { value = get_or bs at 0 - 128 + 128 * get_or bs (at + 1) 0; next = at + 2 }) ≡ read_at bs at
unfolding read_at
read_two bs at h b p l =
    let f = (first_at bs at (omega arith)).1 in
    let s : get_or (drop at bs) 1 0 ≡ get_or bs (at + 1) 0 = get_or-drop at bs 1 0 in
    let two : Ok (get_or (drop at bs) 0 0 - 128 + 128 * get_or (drop at bs) 1 0, 2) ≡ decode (drop at bs) =
    decode_two (drop at bs) (simp length-drop (omega arith)) (omega arith) (omega arith) (omega arith) in
    ap (from at) (ap₂ (λ x y. Ok (x - 128 + 128 * y, 2)) (sym f) (sym s) ∙ two)

pub read_several : (bs : List ℕ) (at : ℕ) (r : Decoded) → at < length bs → 128 ≤ get_or bs at 0 → r ≡ follow (take (length bs - at) (drop at bs)) 4 → from at r ≡ read_at bs at
unfolding read_at
read_several bs at r h b e =
    let f = first_at bs at h in
    ap (from at) (e ∙ ap (λ xs. follow xs 4) (take_rest bs at) ∙ decode-follow (drop at bs) f.0 (omega (arith, f.1)))

-- all the laws, of whatever is `read_at`
pub reading : (bs : List ℕ) (at : ℕ) (r : Result Number Fault) → Bytes bs → r ≡ read_at bs at → Reading bs at r
reading bs at r ty e =
    let P : Result Number Fault → Type 0 = Reading bs at in
    subst P (sym e) (record { reads_back = reads_back bs at; canonical = canonical bs at ty; exact = exact bs at })
