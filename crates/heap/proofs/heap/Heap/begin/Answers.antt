use Rattle.heap.proofs.BeginKeeps.{begin_keeps}
use Rattle.heap.proofs.Keeps.{kept}
use Rattle.heap.proofs.heap.Heap.begin.Goals as goal

pub invariant_of-self : goal.invariant_of-self
invariant_of-self g c = record { sound = ∣ (kept c.args.self.now.sound c.begin.ensures (begin_keeps _ _)).sound ∣₁ }

pub returns : goal.returns
returns g c = assumption (kept c.args.self.now.sound c.begin.ensures (begin_keeps _ _))
