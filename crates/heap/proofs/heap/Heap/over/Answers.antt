use Rattle.std.proofs.Common.{sym, subst}
use Rattle.heap.specs.Sound.{Sound}
use Rattle.heap.proofs.Making.{making_sound}
use Rattle.heap.proofs.heap.Heap.over.Goals as goal

pub invariant_of-result : goal.invariant_of-result
invariant_of-result g c =
    record { sound = ∣ subst (Sound g.L.Layout.shape) (sym c.over.ensures) (making_sound _ (g.S.Store.words c.args.store) (g.S.Store.spare c.args.store)) ∣₁ }
