-- The numbers of an image, and what a pass does with them one after another.
use Rattle.std.specs.Prelude.{ℕ, ◌+◌, ◌-◌, ◌^◌, min, cond, List, [], ◌∷◌, ◌++◌, map, length, nat_le}
use Rattle.layout.specs.Shape.{Shape}
use Rattle.leb128.specs.Number.{encode, overwritten}
use Rattle.image.specs.Content.{Content, Object}
use Rattle.model.specs.Graph.{Graph}
use Rattle.canonical.specs.Walk.{place_of}
use Rattle.canonical.specs.Saving.{object_of, roots_of}

-- the place after a number that comes to stand at a place; the output is not touched
abbrev pub measured : ℕ × List ℕ → ℕ → ℕ × List ℕ
measured p v = (min (p.0 + length (encode v)) (2 ^ 64 - 1), p.1)

-- the same where the number is written, if there is room for it
abbrev pub put : ℕ × List ℕ → ℕ → ℕ × List ℕ
put p v = cond (nat_le (p.0 + length (encode v)) (length p.1)) (p.0 + length (encode v), overwritten p.1 p.0 (encode v)) p

-- the numbers of an object
abbrev pub object_numbers : Object → List ℕ
object_numbers o = o.header ∷ o.body

abbrev pub objects_numbers : List Object → List ℕ
objects_numbers [] = []
objects_numbers (o ∷ os) = object_numbers o ++ objects_numbers os

-- the numbers before the roots: the start, of which each byte is the written form of a number, the sign and the counts
abbrev pub head_numbers : Shape → Content → List ℕ
head_numbers S c = 0x43 ∷ 0x4D ∷ S.sign ∷ length c.objects ∷ length c.roots ∷ []

-- the numbers of an image
abbrev pub image_numbers : Shape → Content → List ℕ
image_numbers S c = head_numbers S c ++ (c.roots ++ objects_numbers c.objects)

-- the number of a value: nil has 0, and the first entry refers to object 1
abbrev pub number_in : List ℕ → ℕ → ℕ
number_in entries v = place_of v (0 ∷ entries)

-- the content whose objects the entries refer to, in this order
abbrev pub content_in : Shape → Graph → List ℕ → Content
content_in S g entries =
    record {
      roots = map (number_in entries) (roots_of g);
      objects = map (object_of S g (number_in entries)) entries;
    }
