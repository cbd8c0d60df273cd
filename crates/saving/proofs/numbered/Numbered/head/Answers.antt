use Rattle.std.proofs.Common.{◌≡◌, ◌∙◌}
use Rattle.std.proofs.lemmas.List.{length-map}
use Rattle.std.proofs.lemmas.List.FromFn.{length-map-range_with_len}
use Rattle.canonical.specs.Saving.{object_of, root_count, roots_of}
use Rattle.memory.specs.Graph.{graph_in}
use Rattle.memory.specs.State.{view}
use Rattle.saving.specs.Passes.{number_in}
use Rattle.saving.proofs.numbered.Numbered.head.Goals as goal

pub returns : goal.returns
returns g c =
    let graph = graph_in (view g.S.Store.words g.S.Store.spare c.args.self.now.memory.now) in
    let entries = c.args.self.now.entries.now in
    let sign : c.IMAGE_SIGN.result ≡ g.L.Layout.shape.sign = c.IMAGE_SIGN.ensures ∙ g.met.L.Layout.sign in
    let objects = length-map entries (object_of g.L.Layout.shape graph (number_in entries)) in
    let roots = length-map (roots_of graph) (number_in entries) ∙ length-map-range_with_len graph.root 0 (root_count graph) in
    cc
