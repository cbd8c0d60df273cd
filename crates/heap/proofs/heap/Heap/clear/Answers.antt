-- The answer names no argument of the call, so where the code passes another one the clauses tell.
use Rattle.std.proofs.Common.{ℕ, ap}
use Rattle.layout.specs.Shape.{Shape}
use Rattle.memory.specs.State.{State}
use Rattle.memory.specs.Edits.{clear_root}
use Rattle.heap.specs.Sound.{Sound}
use Rattle.heap.proofs.Recovering.{recovered}
use Rattle.heap.proofs.RootKeeps.{clear_keeps}
use Rattle.heap.proofs.heap.Heap.clear.Goals as goal

stays : (S : Shape) (s : State) (i : ℕ) → ∥ Sound S s ∥₁ → ∥ Sound S (clear_root s i).1 ∥₁
stays S s i h = ∣ (clear_keeps S s i (recovered S s h)).sound ∣₁

pub invariant_of-self : goal.invariant_of-self
invariant_of-self g c = record { sound = rw (ap (λ p. p.1) c.clear.ensures) (search (stays, c.args.self.now.sound)) }
