use Rattle.std.proofs.Common.{◌≡◌}
use Rattle.memory.specs.State.{view}
use Rattle.marking.specs.Scanning.{lives_from}
use Rattle.marking.proofs.scanning.count_lives.Given as goal

abbrev pub invariant-loop-g : goal.invariant-loop-g
invariant-loop-g g l =
    let see = view g.S.Store.words g.S.Store.spare in
    see l.memory ≡ lives_from (see l.initial.memory) l.g
