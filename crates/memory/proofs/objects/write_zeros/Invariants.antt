use Rattle.std.proofs.Common.{◌≡◌, ◌-◌}
use Rattle.memory.specs.Objects.{zeroed}
use Rattle.memory.proofs.objects.write_zeros.Given as goal

abbrev pub invariant-loop-index : goal.invariant-loop-index
invariant-loop-index g l =
    (g.S.Store.words l.store ≡ zeroed (g.S.Store.words l.initial.store) l.start (l.index - l.start))
    × (g.S.Store.spare l.store ≡ g.S.Store.spare l.initial.store)
