use Rattle.std.proofs.Common.{◌≡◌, ℕ, ◌-◌, List}
use Rattle.image.specs.Pass.{at_state, state_of}
use Rattle.image.specs.Read.{State, roots_at}
use Rattle.image.proofs.Stages.{Going, root_step}
use Rattle.image.proofs.strict.Pass.roots.Given as goal

abbrev pub invariant-loop-i : goal.invariant-loop-i
invariant-loop-i l =
    (s : State) × (l.self ≡ at_state l.initial.self s) × ((front : List ℕ)
    × Going (root_step l.initial.self.reader.bytes.now l.initial.self.objects l.count)
    (roots_at l.initial.self.reader.bytes.now l.initial.self.objects l.count (state_of l.initial.self))
    front l.i (l.count - l.i) s)
