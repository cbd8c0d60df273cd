use Rattle.std.proofs.Common.{◌≡◌, ◌-◌, ◌*◌}
use Rattle.memory.specs.State.{view}
use Rattle.marking.specs.Refining.{enter_objects}
use Rattle.marking.proofs.refining.enter_objects.Given as goal

abbrev pub invariant-loop-place : goal.invariant-loop-place
invariant-loop-place g l =
    let see = view g.S.Store.words g.S.Store.spare in
    see l.memory ≡ enter_objects g.L.Layout.shape (see l.initial.memory) l.card (l.place - 64 * l.card)
