-- No member from `from` on stands before the word at w, and x holds those of that word.
use Rattle.std.proofs.Common.{length, ◌-◌, ◌/◌, ◌^◌, ◌<◌, ◌≤◌}
use Rattle.bitset.specs.Members.{members}
use Rattle.bitset.proofs.Look.{Before, Left}
use Rattle.bitset.proofs.bits.BitSet.first.Given as goal

abbrev pub invariant-loop-x : goal.invariant-loop-x
invariant-loop-x g l =
    (l.w < length l.words) × (l.from / 64 ≤ l.w) × (l.x < 2 ^ 64) × Before (members l.self) l.from l.w
    × Left (members l.self) l.from l.w l.x

abbrev pub decreases-loop-x : goal.decreases-loop-x
decreases-loop-x g l = length l.words - l.w
