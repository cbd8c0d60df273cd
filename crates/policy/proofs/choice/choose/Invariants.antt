use Rattle.std.specs.List.Sorted.{IsPermutation}
use Rattle.policy.specs.Choice.{Apart, Leads}
use Rattle.policy.proofs.choice.choose.Given as goal

-- so far candidates have only changed places, and those before the present place are chosen
abbrev pub invariant-loop-place : goal.invariant-loop-place
invariant-loop-place g l =
    IsPermutation l.initial.candidates l.candidates
    × (Apart l.initial.candidates → Leads (g.P.Policy.before l.policy) l.place l.candidates)
