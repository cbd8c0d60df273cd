-- The cabling layout: the lowest byte of a header names the kind of the object, and the kind its words. The upper 24 bits are
-- free.
use Rattle.std.specs.Prelude.{ℕ, ◌%◌, Bool, true, false, cond, ◌||◌, Some, None, Option, ◌==◌}
use Rattle.layout.specs.declared.cabling.Kind.{Kind}
use Rattle.layout.specs.declared.cabling.Kind.TheVariants.{Room, Rack, Panel, Port, Cable, Label}
use Rattle.layout.specs.Shape.{Shape}

-- 1 is a room, 2 a rack, 3 a panel, 4 a port, 5 a cable, 6 a label; another number is no kind
abbrev pub kind_numbered : ℕ → Option Kind
kind_numbered n =
    cond (n == 1) (Some Room)
    (cond (n == 2) (Some Rack)
    (cond (n == 3) (Some Panel)
    (cond (n == 4) (Some Port)
    (cond (n == 5) (Some Cable)
    (cond (n == 6) (Some Label) None)))))

-- the kind that a header names by its lowest byte
abbrev pub kind_of : ℕ → Option Kind
kind_of h = kind_numbered (h % 256)

-- the words of an object of a kind, the header included
abbrev pub kind_size : Kind → ℕ
kind_size Room = 4
kind_size Rack = 5
kind_size Panel = 5
kind_size Port = 5
kind_size Cable = 6
kind_size Label = 3

-- the positions that hold references; the others are plain
abbrev pub kind_reference : Kind → ℕ → Bool
-- 1 first rack, 2 next room; plain: 3 number
kind_reference Room p = p == 1 || p == 2
-- 1 first panel, 2 next rack, 3 room; plain: 4 height
kind_reference Rack p = p == 1 || p == 2 || p == 3
-- 1 first port, 2 next panel, 3 rack; plain: 4 position
kind_reference Panel p = p == 1 || p == 2 || p == 3
-- 1 next port, 2 panel, 4 cable; plain: 3 number
kind_reference Port p = p == 1 || p == 2 || p == 4
-- 1 and 2 ports, 5 next cable; plain: 3 length in centimetres, 4 category
kind_reference Cable p = p == 1 || p == 2 || p == 5
-- none; plain: 1 and 2
kind_reference Label p = false

-- what a header's kind says of the header: without a kind it is not legal, has size 0 and holds no reference
abbrev pub legal_of : Option Kind → Bool
legal_of (Some k) = true
legal_of None = false

abbrev pub size_of : Option Kind → ℕ
size_of (Some k) = kind_size k
size_of None = 0

abbrev pub reference_of : Option Kind → ℕ → Bool
reference_of (Some k) p = kind_reference k p
reference_of None p = false

-- a header is legal where it names a kind
abbrev pub cabling_legal : ℕ → Bool
cabling_legal h = legal_of (kind_of h)

-- the size of the kind that it names; 0 where the header is not legal
abbrev pub cabling_size : ℕ → ℕ
cabling_size h = size_of (kind_of h)

-- the positions of the kind that it names; none where the header is not legal
abbrev pub cabling_reference : ℕ → ℕ → Bool
cabling_reference h p = reference_of (kind_of h) p

-- sign 2, and a label's header as the sample
abbrev pub cabling : Shape
cabling = record { sign = 2; sample = 6; legal = cabling_legal; size = cabling_size; reference = cabling_reference }
