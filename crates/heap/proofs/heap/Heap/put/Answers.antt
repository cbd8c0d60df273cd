use Rattle.heap.proofs.Keeps.{kept}
use Rattle.heap.proofs.PutKeeps.{put_keeps}
use Rattle.heap.proofs.heap.Heap.put.Goals as goal

pub invariant_of-self : goal.invariant_of-self
invariant_of-self g c = record { sound = ∣ (kept c.args.self.now.sound c.put.ensures (put_keeps _ g.met.L.Layout.lawful _ c.args.i c.args.position c.args.word)).sound ∣₁ }

pub returns : goal.returns
returns g c = assumption (kept c.args.self.now.sound c.put.ensures (put_keeps _ g.met.L.Layout.lawful _ c.args.i c.args.position c.args.word))
