use Rattle.std.proofs.Common.{◌≡◌, ◌+◌, ◌-◌, ◌*◌, ◌≤◌, List}
use Rattle.image.specs.Content.{Object}
use Rattle.image.specs.Pass.{at_state, state_of}
use Rattle.image.specs.Read.{State, objects_at}
use Rattle.image.proofs.Stages.{Going, object_step, Counted}
use Rattle.image.proofs.strict.Pass.objects.Given as goal

abbrev pub invariant-loop-i : goal.invariant-loop-i
invariant-loop-i g l =
    (l.words ≤ 64 * l.i)
    × ((s : State) × (l.self ≡ at_state l.initial.self s) × ((front : List Object)
    × Going (object_step l.initial.self.reader.bytes.now l.initial.self.objects g.L.Layout.shape)
    (objects_at g.L.Layout.shape l.initial.self.reader.bytes.now l.initial.self.objects (state_of l.initial.self))
    front (l.i + 1) (l.initial.self.objects - l.i) s
    × Counted g.L.Layout.shape g.V.Visitor.next l.initial.visitor l.visitor front l.words))
