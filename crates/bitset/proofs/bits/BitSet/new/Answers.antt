-- A new set has one word of 0 for each word of its type, and such words hold no number.
use Rattle.std.proofs.Common.{ℕ, length, ap, ◌∙◌}
use Rattle.std.proofs.lemmas.List.{length-replicate}
use Rattle.bitset.specs.Members.{members, in_words}
use Rattle.bitset.proofs.Lists.{list-none}
use Rattle.bitset.proofs.bits.BitSet.new.Goals as goal

pub invariant_of-result : goal.invariant_of-result
invariant_of-result g c = record { len = ap length c.zeros.ensures ∙ length-replicate {A = ℕ} g.row.W 0 }

pub returns : goal.returns
unfolding members
returns g c = ap in_words c.zeros.ensures ∙ list-none g.row.W
