use Rattle.std.proofs.Common.{◌≡◌, suc, ◌-◌, ◌≤◌, length}
use Rattle.canonical.specs.Saving.{order, referred}
use Rattle.canonical.specs.Walk.{walked}
use Rattle.memory.specs.Graph.{graph_in}
use Rattle.memory.specs.State.{view}
use Rattle.saving.specs.Numbering.{values}
use Rattle.saving.specs.Saved.{room}
use Rattle.saving.proofs.numbering.number_objects.Given as goal

abbrev pub invariant-loop-k : goal.invariant-loop-k
invariant-loop-k g l =
    let shape = g.L.Layout.shape in
    let graph = graph_in (view g.S.Store.words g.S.Store.spare l.memory) in
    record {
      few : l.count ≤ room (length l.list);
      goes : walked (referred shape graph) (room (length l.list) - l.k) (suc l.k) (values l.list l.count) ≡ order shape graph (room (length l.list));
    }

abbrev pub decreases-loop-k : goal.decreases-loop-k
decreases-loop-k g l = room (length l.list) - l.k
