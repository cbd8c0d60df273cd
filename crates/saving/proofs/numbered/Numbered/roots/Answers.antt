use Rattle.memory.specs.State.{view}
use Rattle.saving.specs.Passes.{number_in}
use Rattle.saving.proofs.Walks.{roots_done}
use Rattle.saving.proofs.numbered.Numbered.roots.Goals as goal

pub returns : goal.returns
returns g c =
    roots_done (view g.S.Store.words g.S.Store.spare c.args.self.now.memory.now) c.root_count.result c.root_count.ensures.count
    g.P.Pass.step (number_in c.args.self.now.entries.now) c.loop-root.root-index _ _ c.loop-root-test.false c.loop-root.invariant
