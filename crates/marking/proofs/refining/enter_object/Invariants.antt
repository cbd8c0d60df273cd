use Rattle.std.proofs.Common.{◌≡◌, ◌-◌, ◌≤◌}
use Rattle.memory.specs.State.{view}
use Rattle.marking.specs.Refining.{enter_fields}
use Rattle.marking.proofs.refining.enter_object.Given as goal

abbrev pub invariant-loop-position : goal.invariant-loop-position
invariant-loop-position g l =
    let see = view g.S.Store.words g.S.Store.spare in
    record {
      walked : see l.memory ≡ enter_fields g.L.Layout.shape (see l.initial.memory) l.card l.place l.header (l.position - 1);
      within : l.position - 1 ≤ l.size - 1;
    }
