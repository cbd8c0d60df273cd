use Rattle.std.proofs.Common.{◌≡◌, length, min, ◌∙◌, arith}
use Rattle.saving.specs.Saved.{room}
use Rattle.saving.proofs.Rooms.{saved_within}
use Rattle.heap.specs.Effects.{graph_of}
use Rattle.heap.specs.Images.{places}
use Rattle.heap.specs.View.{state_of}
use Rattle.heap.proofs.Reaching.{places_are, within}
use Rattle.heap.proofs.Recovering.{recovered}
use Rattle.heap.proofs.heap.Heap.save.Goals as goal

pub returns-clause-answer : goal.returns-clause-answer
returns-clause-answer g c =
    let s = state_of g.S.Store.words g.S.Store.spare c.args.self.now in
    let n = length c.args.list.now in
    let enough : room n ≡ min n places = omega (arith, places_are) in
    c.save.ensures.answer
    ∙ saved_within g.L.Layout.shape (graph_of s) places n (room n) c.args.output.now (within (recovered g.L.Layout.shape s c.args.self.now.sound)) enough
