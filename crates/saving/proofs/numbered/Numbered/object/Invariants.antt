use Rattle.std.proofs.Common.{◌≡◌, ◌-◌, map}
use Rattle.std.specs.List.{fold, range_with_len}
use Rattle.canonical.specs.Saving.{object_of, renumbered}
use Rattle.memory.specs.Graph.{graph_in}
use Rattle.memory.specs.State.{view}
use Rattle.saving.specs.Passes.{number_in, object_numbers}
use Rattle.saving.proofs.numbered.Numbered.object.Given as goal

abbrev pub invariant-loop-position : goal.invariant-loop-position
invariant-loop-position g l =
    let shape = g.L.Layout.shape in
    let graph = graph_in (view g.S.Store.words g.S.Store.spare l.self.memory.now) in
    let number = number_in l.self.entries.now in
    fold g.P.Pass.step (l.at, l.output) (renumbered (shape.reference l.header) number l.position (map (graph.field l.place) (range_with_len l.position (shape.size l.header - l.position))))
    ≡ fold g.P.Pass.step (l.fn.at, l.fn.output) (object_numbers (object_of shape graph number l.reference))
