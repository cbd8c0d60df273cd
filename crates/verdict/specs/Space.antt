-- Whether the objects of an image find space in four regions, and the verdict on bytes.
use Rattle.std.specs.Prelude.{◌≡◌, ℕ, ◌-◌, ◌*◌, ◌≤◌, cond, List, length, Some, None, Ok, Err, fold, Option, Result, nat_le, nat_lt, is_some, option_and_then, if◌then◌else◌}
use Rattle.layout.specs.Cabling.{cabling}
use Rattle.image.specs.declared.refusals.Refusal.{Refusal}
use Rattle.image.specs.Content.{Content, headers}
use Rattle.image.specs.Read.{read}
use Rattle.image.specs.Stage.{summary_of}
use Rattle.verdict.specs.declared.placement.Space.{Space}
use Rattle.verdict.specs.declared.placement.Placement.{Placement}
use Rattle.verdict.specs.declared.Verdict.{Verdict}
use Rattle.verdict.specs.declared.Verdict.TheVariants as verdict

-- the next object goes into the open region if it fits the words left there; else another region opens if at least
-- two are free; else there is no space
abbrev pub space_after : Space → ℕ → Option Space
space_after s size =
    cond (nat_le size s.left) (Some (record { free = s.free; left = s.left - size }))
    (cond (nat_le 2 s.free) (Some (record { free = s.free - 1; left = 1024 - size })) None)

-- once an object found no space, none does
abbrev pub placed : Placement → ℕ → Placement
placed p size = record { space = option_and_then (λ s. space_after s size) p.space }

abbrev pub placed_header : Placement → ℕ → Placement
placed_header p h = placed p (cabling.size h)

-- four free regions, and none open
abbrev pub start : Placement
start = record { space = Some (record { free = 4; left = 0 }) }

abbrev pub placed_all : List ℕ → Placement
placed_all hs = fold placed_header start hs

abbrev pub after_placing : Placement → Content → Verdict
after_placing p c = if is_some p.space then verdict.Sound (summary_of cabling c) else verdict.NoSpace

abbrev pub after_reading : Result Content Refusal → Verdict
after_reading (Ok c) = after_placing (placed_all (headers c.objects)) c
after_reading (Err f) = verdict.Faulty f

-- the verdict on bytes: too long, the first fault, want of space, or what the image holds
abbrev pub verdict_of : List ℕ → Verdict
verdict_of bs = cond (nat_lt 8192 (length bs)) verdict.TooLong (after_reading (read cabling bs))

-- a work list of 4,096 words has a word for each object of every image that is not too long
abbrev pub WorkListSuffices : List ℕ → Type 0
WorkListSuffices bs = (c : Content) → length bs ≤ 8192 → read cabling bs ≡ Ok c → length c.objects ≤ 4096

-- what finds space fits three regions: one of the four stays free
abbrev pub Fits : Verdict → Type 0
Fits verdict.TooLong = Unit {0}
Fits (verdict.Faulty f) = Unit {0}
Fits verdict.NoSpace = Unit {0}
Fits (verdict.Sound s) = s.words ≤ 3 * 1024
