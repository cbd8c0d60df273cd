use Rattle.std.proofs.Common.{◌≡◌}
use Rattle.replay.specs.Running.{fills_from}
use Rattle.replay.proofs.running.store_fills.Given as goal

abbrev pub invariant-loop-g : goal.invariant-loop-g
invariant-loop-g g l = l.fills ≡ fills_from l.heap.memory.regions.entries 0 l.g l.initial.fills
