-- The one number that a host gets for an image of the cabling layout.
use Rattle.std.specs.Prelude.{ℕ, ◌+◌, ◌*◌, cond, List, length, Ok, Err, Result, nat_lt}
use Rattle.layout.specs.Cabling.{cabling}
use Rattle.image.specs.declared.refusals.Refusal.{Refusal}
use Rattle.image.specs.Content.{Content}
use Rattle.image.specs.Read.{read, refusal_of}

-- 0 for an accepted image, or the place and the number of its first fault
abbrev pub answer_of : Result Content Refusal → ℕ
answer_of (Ok c) = 0
answer_of (Err f) = 256 * f.place + refusal_of f.fault

-- 255 for more than 65,536 bytes, which are not looked at
abbrev pub host_answer : List ℕ → ℕ
host_answer bs = cond (nat_lt 65536 (length bs)) 255 (answer_of (read cabling bs))
