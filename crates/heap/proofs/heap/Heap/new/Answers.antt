use Rattle.heap.proofs.Keeps.{kept}
use Rattle.heap.proofs.NewKeeps.{new_keeps}
use Rattle.heap.proofs.NewSpace.{space_as_defined}
use Rattle.heap.specs.View.{state_of}
use Rattle.heap.proofs.heap.Heap.new.Goals as goal

pub invariant_of-self : goal.invariant_of-self
invariant_of-self g c = record { sound = ∣ (kept c.args.self.now.sound c.new.ensures (new_keeps _ g.met.L.Layout.lawful _ c.args.root c.args.header)).sound ∣₁ }

pub returns : goal.returns
returns g c =
    let s = state_of g.S.Store.words g.S.Store.spare c.args.self.now in
    assumption (kept c.args.self.now.sound c.new.ensures (new_keeps _ g.met.L.Layout.lawful _ c.args.root c.args.header), space_as_defined g.L.Layout.shape s c.args.root c.args.header c.new.ensures)
