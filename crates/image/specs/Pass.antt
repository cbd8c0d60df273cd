-- Where a pass over the numbers of an image stands.
use Rattle.std.specs.Prelude.{ℕ}
use Rattle.image.specs.declared.source.Reader.{Reader}
use Rattle.image.specs.declared.strict.Pass.{Pass}
use Rattle.image.specs.Read.{State}

-- the greatest reference so far, and the place
abbrev pub state_of : Pass → State
state_of p = (p.greatest, p.reader.position)

-- the same reader at another place
abbrev pub at_place : Reader → ℕ → Reader
at_place r at = record r { position = at }

-- the same pass in another state
abbrev pub at_state : Pass → State → Pass
at_state p s = record p { greatest = s.0; reader = at_place p.reader s.1 }
