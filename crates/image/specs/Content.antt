-- What an image says, and how it is written.
use Rattle.std.specs.Prelude.{ℕ, ◌+◌, List, [], ◌∷◌, ◌++◌, map, length}
use Rattle.layout.specs.Shape.{Shape}
use Rattle.leb128.specs.Number.{encode}

pub record Object : Type 0 where
  pub header : ℕ
  pub body : List ℕ

-- the roots, and the objects in the order of their numbers; a reference is an object's number, from 1, or 0 for nil
pub record Content : Type 0 where
  pub roots : List ℕ
  pub objects : List Object

-- numbers one after another
abbrev pub numbers : List ℕ → List ℕ
numbers [] = []
numbers (v ∷ vs) = encode v ++ numbers vs

-- a header and a body
abbrev pub object_bytes : Object → List ℕ
object_bytes o = encode o.header ++ numbers o.body

abbrev pub objects_bytes : List Object → List ℕ
objects_bytes [] = []
objects_bytes (o ∷ os) = object_bytes o ++ objects_bytes os

-- the written form of a content: the start, the sign, the two counts, the roots, the objects
abbrev pub written : Shape → Content → List ℕ
written S c =
    0x43 ∷ 0x4D ∷
    (encode S.sign ++ (encode (length c.objects) ++ (encode (length c.roots) ++
    (numbers c.roots ++ objects_bytes c.objects))))

-- the words that objects take in a heap, their headers included
abbrev pub words : Shape → List Object → ℕ
words S [] = 0
words S (o ∷ os) = S.size o.header + words S os

abbrev pub headers : List Object → List ℕ
headers os = map (λ o. o.header) os
