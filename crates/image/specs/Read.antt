-- The strict reader: from bytes to the content of the image, or the first fault in reading order.
use Rattle.std.specs.Prelude.{ℕ, ◌+◌, ◌-◌, max, cond, ◌&&◌, List, [], ◌∷◌, length, Ok, Err, Result, ◌==◌, nat_le, nat_lt}
use Rattle.layout.specs.Shape.{Shape}
use Rattle.leb128.specs.declared.Fault.{Fault as NumberFault}
use Rattle.leb128.specs.declared.Fault.TheVariants.{EndsEarly, NotShortest, TooWide}
use Rattle.leb128.specs.declared.Number.{Number}
use Rattle.leb128.specs.Number.{read_at, refusal_of as number_refusal_of}
use Rattle.image.specs.declared.refusals.Fault.{Fault}
use Rattle.image.specs.declared.refusals.Fault.TheVariants as fault
use Rattle.image.specs.declared.refusals.Refusal.{Refusal}
use Rattle.image.specs.declared.strict.Role.{Role}
use Rattle.image.specs.declared.strict.Role.TheVariants as role
use Rattle.image.specs.Content.{Object, Content}
use Rattle.image.specs.Steps.{bind, collect}

-- the number by which each fault is reported
abbrev pub refusal_of : Fault → ℕ
refusal_of (fault.Number f) = number_refusal_of f
refusal_of fault.Start = 13
refusal_of fault.Sign = 14
refusal_of fault.Roots = 15
refusal_of fault.Header = 16
refusal_of fault.Reference = 17
refusal_of fault.NotReferredTo = 18
refusal_of fault.LeftOver = 19

-- a refusal at a place, with the number of the object begun or due, or 0
abbrev pub refuse : {A : Type 0} → Fault → ℕ → ℕ → Result A Refusal
refuse f at k = Err (record { fault = f; place = at; object = k })

-- bytes that end early are reported at their end, other faults of a number at its first byte
abbrev pub fault_place : NumberFault → List ℕ → ℕ → ℕ
fault_place EndsEarly bs at = length bs
fault_place NotShortest bs at = at
fault_place TooWide bs at = at

abbrev pub located : List ℕ → ℕ → ℕ → Result Number NumberFault → Result Number Refusal
located bs k at (Ok p) = Ok p
located bs k at (Err f) = refuse (fault.Number f) (fault_place f bs at) k

-- the number at a place of the image, in the object k
unfoldable pub number_at : List ℕ → ℕ → ℕ → Result Number Refusal
number_at bs k at = located bs k at (read_at bs at)

-- the two bytes at the start; the place after them
abbrev pub start_of : List ℕ → Result ℕ Refusal
start_of [] = refuse (fault.Number EndsEarly) 0 0
start_of (a ∷ []) = refuse (fault.Number EndsEarly) 1 0
start_of (a ∷ b ∷ rest) = cond (a == 0x43 && b == 0x4D) (Ok 2) (refuse fault.Start 0 0)

-- the sign; the place after it
abbrev pub sign_at : Shape → List ℕ → ℕ → Result ℕ Refusal
sign_at S bs at = bind (number_at bs 0 at) (λ p. cond (p.value == S.sign) (Ok p.next) (refuse fault.Sign at 0))

-- the object count and the root count; the place after them
abbrev pub counts_at : List ℕ → ℕ → Result ((ℕ × ℕ) × ℕ) Refusal
counts_at bs at =
    bind (number_at bs 0 at) (λ n.
    bind (number_at bs 0 n.next) (λ r.
    cond (nat_le r.value 64) (Ok ((n.value, r.value), r.next)) (refuse fault.Roots n.next 0)))

-- a reference v among n objects, where m is the greatest so far: the greatest from then on
abbrev pub noted : ℕ → ℕ → ℕ → Result ℕ Fault
noted n m v = cond (nat_le v n && nat_le v (m + 1)) (Ok (max m v)) (Err fault.Reference)

-- the same for a value of any role: a plain word is as it is, and the last root is not nil
abbrev pub judged : Role → ℕ → ℕ → ℕ → Result ℕ Fault
judged role.Plain n m v = Ok m
judged role.Reference n m v = noted n m v
judged role.LastRoot n m v = cond (v == 0) (Err fault.Roots) (noted n m v)

abbrev pub placed : {A : Type 0} → ℕ → ℕ → Result A Fault → Result A Refusal
placed at k (Ok a) = Ok a
placed at k (Err f) = refuse f at k

-- the greatest reference so far, and the place
abbrev pub State : Type 0
State = ℕ × ℕ

-- one value of the object k (of the roots: 0)
unfoldable pub value_at : List ℕ → ℕ → ℕ → Role → State → Result (ℕ × State) Refusal
value_at bs n k r s =
    bind (number_at bs k s.1) (λ p. bind (placed s.1 k (judged r n s.0 p.value)) (λ m. Ok (p.value, (m, p.next))))

-- the role of root i of r
abbrev pub root_role : ℕ → ℕ → Role
root_role r i = cond (i + 1 == r) role.LastRoot role.Reference

-- the role of a position of an object with the header h
abbrev pub body_role : Shape → ℕ → ℕ → Role
body_role S h i = cond (S.reference h i) role.Reference role.Plain

-- the r roots, from root 0 on
unfoldable pub roots_at : List ℕ → ℕ → ℕ → State → Result (List ℕ × State) Refusal
roots_at bs n r s = collect (λ i t. value_at bs n 0 (root_role r i) t) 0 r s

-- the words of an object after its header h, from position 1 on
unfoldable pub body_at : Shape → List ℕ → ℕ → ℕ → ℕ → State → Result (List ℕ × State) Refusal
body_at S bs n k h s = collect (λ i t. value_at bs n k (body_role S h i) t) 1 (S.size h - 1) s

-- the object k, which has to have been referred to
unfoldable pub object_at : Shape → List ℕ → ℕ → ℕ → State → Result (Object × State) Refusal
object_at S bs n k s =
    cond (nat_le k s.0)
    (bind (number_at bs k s.1) (λ h.
    cond (S.legal h.value)
    (bind (body_at S bs n k h.value (s.0, h.next)) (λ b. Ok (record { header = h.value; body = b.0 }, b.1)))
    (refuse fault.Header s.1 k)))
    (refuse fault.NotReferredTo s.1 k)

-- the n objects, from object 1 on
unfoldable pub objects_at : Shape → List ℕ → ℕ → State → Result (List Object × State) Refusal
objects_at S bs n s = collect (λ k t. object_at S bs n k t) 1 n s

-- nothing is left over
abbrev pub finished : {A : Type 0} → List ℕ → ℕ → A → Result A Refusal
finished bs at a = cond (nat_lt at (length bs)) (refuse fault.LeftOver at 0) (Ok a)

-- the content of an image, or the first fault in reading order
unfoldable pub read : Shape → List ℕ → Result Content Refusal
read S bs =
    bind (start_of bs) (λ at.
    bind (sign_at S bs at) (λ at.
    bind (counts_at bs at) (λ c.
    bind (roots_at bs c.0.0 c.0.1 (0, c.1)) (λ rs.
    bind (objects_at S bs c.0.0 rs.1) (λ os.
    finished bs os.1.1 (record { roots = rs.0; objects = os.0 }))))))
