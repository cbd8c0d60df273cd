use Rattle.std.proofs.Common.{◌≡◌, map, drop}
use Rattle.std.specs.List.{fold}
use Rattle.canonical.specs.Saving.{object_of}
use Rattle.memory.specs.Graph.{graph_in}
use Rattle.memory.specs.State.{view}
use Rattle.saving.specs.Passes.{number_in, objects_numbers}
use Rattle.saving.proofs.numbered.Numbered.objects.Given as goal

abbrev pub invariant-loop-entry : goal.invariant-loop-entry
invariant-loop-entry g l =
    let graph = graph_in (view g.S.Store.words g.S.Store.spare l.self.memory.now) in
    let object = object_of g.L.Layout.shape graph (number_in l.self.entries.now) in
    fold g.P.Pass.step (l.at, l.output) (objects_numbers (map object (drop l.entry-index l.self.entries.now)))
    ≡ fold g.P.Pass.step (l.fn.at, l.fn.output) (objects_numbers (map object l.self.entries.now))
