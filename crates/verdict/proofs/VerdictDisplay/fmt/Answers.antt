use Rattle.std.proofs.Common.{◌≡◌, codes, refl, rules}
use Rattle.std.specs.Fmt.{digits}
use Rattle.verdict.specs.Line.{refusal_line}
use Rattle.verdict.proofs.VerdictDisplay.fmt.Goals as goal

-- want of space in the form of every refusal
no_space : codes "refused 33 at 0 object 0" ≡ refusal_line 33 0 0
unfolding digits
no_space = refl

pub returns-in-NoSpace-clause-writes : goal.returns-in-NoSpace-clause-writes
returns-in-NoSpace-clause-writes g c = let e = no_space in let q = c.in-NoSpace.is in rw (q, ← e) (search rules)
