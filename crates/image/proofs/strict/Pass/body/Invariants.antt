use Rattle.std.proofs.Common.{◌≡◌, ℕ, ◌-◌, ◌≤◌, max, List}
use Rattle.image.specs.Pass.{at_state, state_of}
use Rattle.image.specs.Read.{State, body_at}
use Rattle.image.proofs.Stages.{Going, body_step}
use Rattle.image.proofs.strict.Pass.body.Given as goal

abbrev pub invariant-loop-position : goal.invariant-loop-position
invariant-loop-position g l =
    (l.position ≤ max 1 l.position-end)
    × ((s : State) × (l.self ≡ at_state l.initial.self s) × ((front : List ℕ)
    × Going (body_step l.initial.self.reader.bytes.now l.initial.self.objects g.L.Layout.shape l.object l.header)
    (body_at g.L.Layout.shape l.initial.self.reader.bytes.now l.initial.self.objects l.object l.header (state_of l.initial.self))
    front l.position (l.position-end - l.position) s))
