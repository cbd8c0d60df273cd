use Rattle.std.proofs.Common.{◌≡◌}
use Rattle.memory.specs.State.{view}
use Rattle.marking.specs.Scanning.{shaded_roots}
use Rattle.marking.proofs.scanning.shade_roots.Given as goal

abbrev pub invariant-loop-k : goal.invariant-loop-k
invariant-loop-k g l =
    let see = view g.S.Store.words g.S.Store.spare in
    see l.memory ≡ shaded_roots (see l.initial.memory) l.k
