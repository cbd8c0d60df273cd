use Rattle.std.proofs.Common.{◌+◌}
use Rattle.policy.specs.Choice.{FirstOf}
use Rattle.policy.proofs.choice.best_from.Given as goal

-- the best so far is a first one of the places before the present one
abbrev pub invariant-loop-later : goal.invariant-loop-later
invariant-loop-later g l = FirstOf (g.P.Policy.before l.policy) l.candidates l.from (l.from + 1 + l.later) l.best
