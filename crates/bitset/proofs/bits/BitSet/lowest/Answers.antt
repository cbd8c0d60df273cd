-- The first member from 0 on is the lowest.
use Rattle.std.proofs.Common.{◌*◌}
use Rattle.bitset.specs.Members.{members}
use Rattle.bitset.proofs.Members.{members_bounded}
use Rattle.bitset.proofs.Set.{first_is}
use Rattle.bitset.proofs.bits.BitSet.lowest.Goals as goal

pub returns : goal.returns
returns g c =
    record {
      value = first_is (members c.args.self.now) (64 * g.row.W) c.first.result (members_bounded c.args.self.now) c.first.ensures.first;
      bound = c.first.ensures.bound;
    }
