-- The cases at the limits that the rule book states.
use Rattle.std.specs.Prelude.{◌≡◌, ℕ, true, false, [], ◌∷◌, Some, None, Ok, Err, codes, Option, Result}
use Rattle.layout.specs.declared.cabling.Kind.TheVariants.{Room}
use Rattle.layout.specs.Cabling.{cabling, kind_of}
use Rattle.layout.specs.Counted.{counted}
use Rattle.leb128.specs.declared.Fault.{Fault}
use Rattle.leb128.specs.declared.Number.{Number}
use Rattle.leb128.specs.Number.{encode, read_at, refusal_of as number_refusal_of}
use Rattle.image.specs.declared.refusals.Refusal.{Refusal}
use Rattle.image.specs.Content.{Content}
use Rattle.image.specs.Read.{read, refusal_of}
use Rattle.verdict.specs.Line.{line_of}
use Rattle.verdict.specs.Space.{verdict_of}

-- the number by which a fault of a number is reported
abbrev pub number_reported : Result Number Fault → Option ℕ
number_reported (Ok p) = None
number_reported (Err f) = Some (number_refusal_of f)

-- the number, the place and the object of a refused image
abbrev pub reported : Result Content Refusal → Option (ℕ × ℕ × ℕ)
reported (Ok c) = None
reported (Err f) = Some (refusal_of f.fault, f.place, f.object)

-- the model of no roots and no objects
abbrev pub empty : Content
empty = record { roots = []; objects = [] }

pub record StatedCases : Type 0 where
  -- counted headers 63 and 318 are legal with size 64; 64 and 319 are not legal
  pub counted_63 : (counted.legal 63 ≡ true) × (◌≡◌ {A = ℕ} (counted.size 63) 64)
  pub counted_318 : (counted.legal 318 ≡ true) × (◌≡◌ {A = ℕ} (counted.size 318) 64)
  pub counted_64 : counted.legal 64 ≡ false
  pub counted_319 : counted.legal 319 ≡ false
  -- cabling headers 0 and 7 are not legal; 257 is a room
  pub cabling_0 : cabling.legal 0 ≡ false
  pub cabling_7 : cabling.legal 7 ≡ false
  pub cabling_257 : (cabling.legal 257 ≡ true) × (kind_of 257 ≡ Some Room)
  -- how numbers are written, and two that are refused
  pub number_300 : encode 300 ≡ 0xAC ∷ 0x02 ∷ []
  pub number_greatest : encode 4294967295 ≡ 0xFF ∷ 0xFF ∷ 0xFF ∷ 0xFF ∷ 0x0F ∷ []
  pub number_longer : number_reported (read_at (0x80 ∷ 0x00 ∷ []) 0) ≡ Some 11
  pub number_wide : number_reported (read_at (0xFF ∷ 0xFF ∷ 0xFF ∷ 0xFF ∷ 0x10 ∷ []) 0) ≡ Some 12
  -- the empty model, and the same with a byte left over
  pub image_empty : read cabling (0x43 ∷ 0x4D ∷ 0x02 ∷ 0x00 ∷ 0x00 ∷ []) ≡ Ok empty
  pub image_left_over : reported (read cabling (0x43 ∷ 0x4D ∷ 0x02 ∷ 0x00 ∷ 0x00 ∷ 0x00 ∷ [])) ≡ Some (19, 5, 0)
  -- a reference above the object count, an object that nothing refers to, a last root that is nil
  pub image_reference : reported (read cabling (0x43 ∷ 0x4D ∷ 0x02 ∷ 0x01 ∷ 0x01 ∷ 0x02 ∷ [])) ≡ Some (17, 5, 0)
  pub image_not_referred : reported (read cabling (0x43 ∷ 0x4D ∷ 0x02 ∷ 0x01 ∷ 0x00 ∷ [])) ≡ Some (18, 5, 1)
  pub image_last_root : reported (read cabling (0x43 ∷ 0x4D ∷ 0x02 ∷ 0x00 ∷ 0x01 ∷ 0x00 ∷ [])) ≡ Some (15, 5, 0)
  -- a panel with one port, as it is reported
  pub panel_and_port : line_of (verdict_of (0x43 ∷ 0x4D ∷ 0x02 ∷ 0x02 ∷ 0x01 ∷ 0x01 ∷ 0x03 ∷ 0x02 ∷ 0x00 ∷ 0x00 ∷ 0x03 ∷ 0x04 ∷ 0x00 ∷ 0x01 ∷ 0x07 ∷ 0x00 ∷ []))
      ≡ codes "ok 2 objects 1 roots 10 words"
