use Rattle.std.proofs.Common.{◌≡◌, ◌≤◌}
use Rattle.canonical.specs.Saving.{used, root_count}
use Rattle.memory.specs.Graph.{graph_in}
use Rattle.memory.specs.State.{view}
use Rattle.saving.proofs.numbering.root_count.Given as goal

abbrev pub invariant-loop-count : goal.invariant-loop-count
invariant-loop-count g l =
    let graph = graph_in (view g.S.Store.words g.S.Store.spare l.memory) in
    record {
      low : l.count ≤ 64;
      same : used graph.root l.count ≡ root_count graph;
    }

abbrev pub decreases-loop-count : goal.decreases-loop-count
decreases-loop-count g l = l.count
