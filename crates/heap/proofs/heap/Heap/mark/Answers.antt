use Rattle.heap.proofs.Keeps.{kept}
use Rattle.heap.proofs.MarkKeeps.{mark_keeps}
use Rattle.heap.proofs.heap.Heap.mark.Goals as goal

pub invariant_of-self : goal.invariant_of-self
invariant_of-self g c = record { sound = ∣ (kept c.args.self.now.sound c.mark.ensures (mark_keeps _ g.met.L.Layout.lawful _)).sound ∣₁ }

pub returns : goal.returns
returns g c = assumption (kept c.args.self.now.sound c.mark.ensures (mark_keeps _ g.met.L.Layout.lawful _))
