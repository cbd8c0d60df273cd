-- What a pass over the numbers of an image comes to: measuring gives the length of the image, and writing gives its bytes.
use Rattle.std.proofs.Common.{◌≡◌, ℕ, suc, ◌+◌, ◌-◌, ◌^◌, ◌≤◌, min, List, [], ◌∷◌, ◌++◌, length, set, sym, refl, ap, ap₂, ◌∙◌, append_assoc, add-zero, arith, length-append, length-set}
use Rattle.std.specs.List.{fold}
use Rattle.std.proofs.lemmas.Bool.{cond-true, le-leb}
use Rattle.layout.specs.Shape.{Shape}
use Rattle.leb128.specs.Number.{encode, replaced}
use Rattle.leb128.proofs.Laws.{replaced_is}
use Rattle.image.specs.Content.{Content, Object, numbers, object_bytes, objects_bytes, written}
use Rattle.saving.specs.Passes.{measured, put, object_numbers, objects_numbers, image_numbers}

numbers-append : (vs us : List ℕ) → numbers (vs ++ us) ≡ numbers vs ++ numbers us
numbers-append [] us = refl
numbers-append (v ∷ vs) us = ap (λ bs. encode v ++ bs) (numbers-append vs us) ∙ sym (append_assoc (encode v) (numbers vs) (numbers us))

objects_written : (os : List Object) → objects_bytes os ≡ numbers (objects_numbers os)
objects_written [] = refl
objects_written (o ∷ os) =
    ap (λ bs. object_bytes o ++ bs) (objects_written os) ∙ sym (numbers-append (object_numbers o) (objects_numbers os))

-- an image is the written form of its numbers
pub image_written : (S : Shape) (c : Content) → written S c ≡ numbers (image_numbers S c)
unfolding encode
image_written S c =
    ap (λ bs. 0x43 ∷ 0x4D ∷ (encode S.sign ++ (encode (length c.objects) ++ (encode (length c.roots) ++ bs))))
    (ap (λ bs. numbers c.roots ++ bs) (objects_written c.objects) ∙ sym (numbers-append c.roots (objects_numbers c.objects)))

pub all_measured : (vs : List ℕ) (a : ℕ) (out : List ℕ) → fold measured (min a (2 ^ 64 - 1), out) vs ≡ (min (a + length (numbers vs)) (2 ^ 64 - 1), out)
all_measured [] a out = ap (λ n. (min n (2 ^ 64 - 1), out)) (sym (add-zero a))
all_measured (v ∷ vs) a out =
    let one : min (min a (2 ^ 64 - 1) + length (encode v)) (2 ^ 64 - 1) ≡ min (a + length (encode v)) (2 ^ 64 - 1) = omega arith in
    let all : a + length (encode v) + length (numbers vs) ≡ a + length (encode v ++ numbers vs) = omega (arith, length-append (encode v) (numbers vs)) in
    ap (λ n. fold measured (n, out) vs) one ∙ all_measured vs (a + length (encode v)) out ∙ ap (λ n. (min n (2 ^ 64 - 1), out)) all

-- bytes put one after another
replaced-append : (bs cs out : List ℕ) (at : ℕ) → replaced out at (bs ++ cs) ≡ replaced (replaced out at bs) (at + length bs) cs
replaced-append [] cs out at = ap (λ k. replaced out k cs) (sym (add-zero at))
replaced-append (b ∷ bs) cs out at =
    let e : at + 1 + length bs ≡ at + suc (length bs) = omega arith in
    replaced-append bs cs (set out at b) (at + 1) ∙ ap (λ k. replaced (replaced (set out at b) (at + 1) bs) k cs) e

replaced-length : (bs out : List ℕ) (at : ℕ) → length (replaced out at bs) ≡ length out
replaced-length [] out at = refl
replaced-length (b ∷ bs) out at = replaced-length bs (set out at b) (at + 1) ∙ length-set out at b

pub all_put : (vs : List ℕ) (at : ℕ) (out : List ℕ) → at + length (numbers vs) ≤ length out →
    fold put (at, out) vs ≡ (at + length (numbers vs), replaced out at (numbers vs))
all_put [] at out l = ap (λ n. (n, out)) (sym (add-zero at))
all_put (v ∷ vs) at out l =
    let n : ℕ = length (encode v) in
    let room : at + n ≤ length out = omega (arith, length-append (encode v) (numbers vs)) in
    let more : at + n + length (numbers vs) ≤ length (replaced out at (encode v)) = omega (arith, length-append (encode v) (numbers vs), replaced-length (encode v) out at) in
    let all : at + n + length (numbers vs) ≡ at + length (encode v ++ numbers vs) = omega (arith, length-append (encode v) (numbers vs)) in
    let one : put (at, out) v ≡ (at + n, replaced out at (encode v)) =
    cond-true _ _ _ (le-leb (at + n) (length out) room) ∙ ap (λ bs. (at + n, bs)) (sym (replaced_is (encode v) out at room)) in
    ap (λ p. fold put p vs) one ∙ all_put vs (at + n) (replaced out at (encode v)) more
    ∙ ap₂ (λ k bs. (k, bs)) all (sym (replaced-append (encode v) (numbers vs) out at))
