-- An image has at least one byte for each word of its objects: every number takes a byte, and an
-- object is as many numbers as it has words.
use Rattle.std.proofs.Common.{◌≡◌, ℕ, ◌+◌, ◌≤◌, List, [], ◌∷◌, ◌++◌, length, Ok, Err, Result, sym, refl, ap, subst, arith, length-append}
use Rattle.layout.specs.Shape.{Shape, Lawful}
use Rattle.leb128.specs.Number.{encode}
use Rattle.leb128.proofs.Steps.{Bytes}
use Rattle.leb128.proofs.Laws.{encode-length}
use Rattle.image.specs.declared.refusals.Refusal.{Refusal}
use Rattle.image.specs.declared.strict.Summary.{Summary}
use Rattle.image.specs.Content.{Object, Content, numbers, object_bytes, objects_bytes, written, words}
use Rattle.image.specs.Read.{read}
use Rattle.image.specs.Numbering.{Ordered}
use Rattle.image.specs.Stage.{summarised, WithinBytes}
use Rattle.image.proofs.Exact.{exact}
use Rattle.image.proofs.Places.{Inside, read-inside}

longer : (v : ℕ) (rest : List ℕ) → 1 + length rest ≤ length (encode v ++ rest)
longer v rest = simp length-append (omega (arith, (encode-length v).0))

numbers_long : (vs : List ℕ) → length vs ≤ length (numbers vs)
numbers_long [] = omega arith
numbers_long (v ∷ vs) = omega (arith, longer v (numbers vs), numbers_long vs)

pub objects_long : (S : Shape) → Lawful S → (n k m : ℕ) (os : List Object) → Ordered S n k m os → words S os ≤ length (objects_bytes os)
objects_long S lawful n k m [] a = omega arith
objects_long S lawful n k m (o ∷ os) a =
    let least = lawful.least o.header a.2 in
    let body = numbers_long o.body in
    let ih = objects_long S lawful n (k + 1) _ os a.5 in
    let long = a.3 in
    omega (arith, longer o.header (numbers o.body), length-append (object_bytes o) (objects_bytes os))

behind : (v : ℕ) (rest : List ℕ) (n : ℕ) → n ≤ length rest → n ≤ length (encode v ++ rest)
behind v rest n h = omega (arith, longer v rest)

pub written_long : (S : Shape) (c : Content) → length (objects_bytes c.objects) ≤ length (written S c)
written_long S c =
    let n : ℕ = length (objects_bytes c.objects) in
    let roots : n ≤ length (numbers c.roots ++ objects_bytes c.objects) = simp length-append (omega arith) in
    let all = behind S.sign _ n (behind (length c.objects) _ n (behind (length c.roots) _ n roots)) in
    omega (arith, all)

pub read_within : (S : Shape) → Lawful S → (bs : List ℕ) → Bytes bs → (r : Result Summary Refusal) → r ≡ summarised S (read S bs) → WithinBytes bs r
read_within S lawful bs ty r e = subst (WithinBytes bs) (sym e) (by (read S bs) refl (read-inside bs ty S))
  where
    by : (x : Result Content Refusal) → read S bs ≡ x → Inside bs ty (λ _. Unit {0}) x → WithinBytes bs (summarised S x)
    by (Ok c) f h =
        let w = (exact S lawful bs ty c).0 f in
        omega (arith, objects_long S lawful _ _ _ c.objects w.0.objects, written_long S c, ap length w.1)
    by (Err f) g h = h
