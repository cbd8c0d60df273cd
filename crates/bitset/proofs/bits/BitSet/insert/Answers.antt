-- Setting the bit of a number in its word makes that number a member and leaves all others. Past the last word nothing is
-- written, and nothing had to be, since no number there is a member.
use Rattle.std.proofs.Common.{◌≡◌, ◌*◌, ◌/◌, true, false, ltb, get_or, sym, refl, ap, ◌∙◌, arith}
use Rattle.std.proofs.lemmas.Bool.Decides.{nat_tests}
use Rattle.bitset.specs.Members.{members}
use Rattle.bitset.specs.Set.{put}
use Rattle.bitset.proofs.Lists.{list_holds, list_put}
use Rattle.bitset.proofs.Members.{members_bounded}
use Rattle.bitset.proofs.Set.{put_is, put-joined}
use Rattle.bitset.proofs.Words.{holds_with}
use Rattle.bitset.proofs.bits.BitSet.insert.Goals as goal

pub returns-then-w : goal.returns-then-w
unfolding members
returns-then-w g c =
    let f = members c.args.self.now in
    let x = get_or c.args.self.now.words (c.args.i / 64) 0 in
    let e : ltb c.args.i (64 * g.row.W) ≡ true = grind (arith, nat_tests) in
    let now_in = list_put c.args.self.now.words c.args.i c.with.result true (omega arith) (omega arith)
    (holds_with f c.args.i x c.with.result c.with.ensures (list_holds c.args.self.now.words (c.args.i / 64) (omega arith)))
    ∙ ap (put f c.args.i) (sym e) in
    record {
      put = now_in;
      past = λ h. absurd (omega arith);
      joined = now_in ∙ put-joined (64 * g.row.W) f c.args.i;
    }

pub returns-else-w : goal.returns-else-w
returns-else-w g c =
    let e : ltb c.args.i (64 * g.row.W) ≡ false = grind (arith, nat_tests) in
    let as_before = put_is (members c.args.self.now) c.args.i (ltb c.args.i (64 * g.row.W))
    (members_bounded c.args.self.now c.args.i (omega arith) ∙ sym e) in
    record { put = as_before; past = λ h. refl; joined = as_before ∙ put-joined (64 * g.row.W) (members c.args.self.now) c.args.i }
