use Rattle.heap.proofs.Keeps.{kept}
use Rattle.heap.proofs.RefineKeeps.{refine_keeps}
use Rattle.heap.proofs.heap.Heap.refine.Goals as goal

pub invariant_of-self : goal.invariant_of-self
invariant_of-self g c = record { sound = ∣ (kept c.args.self.now.sound c.refine.ensures (refine_keeps _ g.met.L.Layout.lawful _)).sound ∣₁ }

pub returns : goal.returns
returns g c = assumption (kept c.args.self.now.sound c.refine.ensures (refine_keeps _ g.met.L.Layout.lawful _))
