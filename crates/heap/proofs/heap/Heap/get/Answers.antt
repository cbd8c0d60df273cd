use Rattle.heap.proofs.Keeps.{kept}
use Rattle.heap.proofs.RootKeeps.{get_keeps}
use Rattle.heap.proofs.heap.Heap.get.Goals as goal

pub invariant_of-self : goal.invariant_of-self
invariant_of-self g c = record { sound = ∣ (kept c.args.self.now.sound c.get.ensures (get_keeps _ _ c.args.i c.args.position c.args.k)).sound ∣₁ }

pub returns : goal.returns
returns g c = assumption (kept c.args.self.now.sound c.get.ensures (get_keeps _ _ c.args.i c.args.position c.args.k))
