-- The words have as many bits as there are members in them, at most 64 each.
use Rattle.std.proofs.Common.{◌*◌, ◌^◌, ◌<◌, length, ◌∙◌, arith, rules}
use lib.Count.{ones}
use Rattle.std.specs.List.{sum_by}
use Rattle.bitset.specs.Members.{in_words}
use Rattle.bitset.proofs.Set.{tally_le}
use Rattle.bitset.proofs.Ranges.{all_size}
use Rattle.bitset.proofs.word.total.Goals as goal

pub sum-requires-clause-fits : goal.sum-requires-clause-fits
sum-requires-clause-fits c =
    let ws = c.args.words.now in
    let small : sum_by ones ws < 2 ^ 64 =
    omega (arith, all_size ws (omega arith) (λ k h. (c.type_inv.words k).fits), tally_le (in_words ws) 0 (64 * length ws)) in
    search rules

pub returns : goal.returns
returns c = search rules ∙ all_size _ (omega arith) (λ k h. (c.type_inv.words k).fits)
