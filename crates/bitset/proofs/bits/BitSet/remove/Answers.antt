-- Clearing the bit of a number in its word makes that number no member and leaves all others. Past the last word nothing is
-- written, and nothing had to be, since no number there is a member.
use Rattle.std.proofs.Common.{◌/◌, false, get_or, arith}
use Rattle.bitset.specs.Members.{members}
use Rattle.bitset.proofs.Lists.{list_holds, list_put}
use Rattle.bitset.proofs.Members.{members_bounded}
use Rattle.bitset.proofs.Set.{put_is}
use Rattle.bitset.proofs.Words.{holds_without}
use Rattle.bitset.proofs.bits.BitSet.remove.Goals as goal

pub returns-then-w : goal.returns-then-w
unfolding members
returns-then-w g c =
    let x = get_or c.args.self.now.words (c.args.i / 64) 0 in
    list_put c.args.self.now.words c.args.i c.without.result false (omega arith) (omega arith)
    (holds_without (members c.args.self.now) c.args.i x c.without.result (omega arith) c.without.ensures
    (list_holds c.args.self.now.words (c.args.i / 64) (omega arith)))

pub returns-else-w : goal.returns-else-w
returns-else-w g c = put_is (members c.args.self.now) c.args.i false (members_bounded c.args.self.now c.args.i (omega arith))
