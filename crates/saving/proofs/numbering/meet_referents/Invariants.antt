use Rattle.std.proofs.Common.{◌≡◌, ◌-◌, ◌≤◌, length, map}
use Rattle.std.specs.List.{range_with_len}
use Rattle.canonical.specs.Saving.{references, referred}
use Rattle.canonical.specs.Walk.{all_met}
use Rattle.memory.specs.Graph.{graph_in}
use Rattle.memory.specs.State.{view}
use Rattle.saving.specs.Numbering.{values}
use Rattle.saving.specs.Saved.{room}
use Rattle.saving.proofs.numbering.meet_referents.Given as goal

abbrev pub invariant-loop-position : goal.invariant-loop-position
invariant-loop-position g l =
    let shape = g.L.Layout.shape in
    let graph = graph_in (view g.S.Store.words g.S.Store.spare l.memory) in
    record {
      few : l.count ≤ room (length l.list);
      goes : all_met (references (shape.reference l.header) l.position (map (graph.field l.place) (range_with_len l.position (shape.size l.header - l.position)))) (values l.list l.count)
          ≡ all_met (referred shape graph l.reference) (values l.fn.list l.fn.count);
    }
