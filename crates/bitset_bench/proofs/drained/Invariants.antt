use Prim.Native.Nat.{◌-◌, ◌≤◌}
use Rattle.bitset_bench.proofs.drained.Given as goal

abbrev pub invariant-loop-k : goal.invariant-loop-k
invariant-loop-k l = l.from ≤ 32768

abbrev pub decreases-loop-k : goal.decreases-loop-k
decreases-loop-k l = 32768 - l.from
