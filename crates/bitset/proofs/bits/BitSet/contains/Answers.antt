-- The bit of a number in its word is the answer, and past the last word there is no member.
use Rattle.std.proofs.Common.{◌∙◌, arith, rules}
use Rattle.bitset.specs.Members.{members}
use Rattle.bitset.proofs.Lists.{list_has}
use Rattle.bitset.proofs.Members.{members_bounded}
use Rattle.bitset.proofs.bits.BitSet.contains.Goals as goal

pub returns : goal.returns
unfolding members
returns g c =
    record { value = search rules ∙ list_has c.args.self.now.words c.args.i (omega arith); bound = members_bounded c.args.self.now }
