-- The range is taken out by its parts: what is left of the first word, the words between, and the front of the last. A part
-- past the last word of the set has no members.
use Rattle.std.proofs.Common.{◌≡◌, ◌+◌, ◌-◌, ◌*◌, ◌/◌, set, ap, ◌∙◌, ⊎_elim, arith, rules}
use Rattle.bitset.specs.Members.{members, in_words}
use Rattle.bitset.specs.Set.{cut}
use Rattle.bitset.proofs.Members.{members_bounded}
use Rattle.bitset.proofs.Ranges.{front-cut, end_cut, within_cut}
use Rattle.bitset.proofs.Set.{cut-none, cut_then, cut-past}
use borrow.Rule.Slice.PartMut.{put_mid}
use Rattle.bitset.proofs.bits.BitSet.remove_range.Goals as goal

pub returns-then-a-b : goal.returns-then-a-b
returns-then-a-b g c =
    let f = members c.args.self.now in
    ⊎_elim (λ h. cut-none f c.args.a c.args.b h)
    (λ h. cut-none f c.args.a (64 * g.row.W) (omega arith) ∙ cut-past f c.args.a (64 * g.row.W) c.args.b (members_bounded c.args.self.now) (omega arith))
    c.then-a-b.either

pub returns-then-low-high : goal.returns-then-low-high
unfolding members
returns-then-low-high g c =
    within_cut c.args.self.now.words c.args.a c.args.b c.below.result c.from.result (omega arith) (omega arith) (omega arith)
    (omega arith) (omega arith) c.below.ensures c.from.ensures

pub returns-then-high : goal.returns-then-high
unfolding members
returns-then-high g c =
    let old = c.args.self.now.words in
    let a = c.args.a in
    let b = c.args.b in
    let w = a / 64 + 1 in
    let ws = put_mid w (c.min.result - w) (set old (a / 64) c.below-2.result) c.fill.new.self in
    let same : c.min.result ≡ b / 64 = omega arith in
    let front = front-cut old c.fill.new.self a c.below-2.result c.min.result (omega arith) (omega arith) (omega arith) (omega arith)
    c.below-2.ensures (c.fill.ensures.after (λ y e. e)) ∙ ap (λ v. cut (in_words old) a (64 * v)) same in
    cut_then (in_words old) (in_words ws) (in_words (set ws (b / 64) c.from-then-high.result)) a (64 * (b / 64)) b front
    (end_cut ws b c.from-then-high.result (omega arith) (search rules) (omega arith) c.from-then-high.ensures) (omega arith) (omega arith)

pub returns-else-high : goal.returns-else-high
unfolding members
returns-else-high g c =
    let old = c.args.self.now.words in
    let a = c.args.a in
    let same : c.min.result ≡ g.row.W = omega arith in
    front-cut old c.fill.new.self a c.below-2.result c.min.result (omega arith) (omega arith) (omega arith) (omega arith)
    c.below-2.ensures (c.fill.ensures.after (λ y e. e)) ∙ ap (λ v. cut (in_words old) a (64 * v)) same
    ∙ cut-past (in_words old) a (64 * g.row.W) c.args.b (members_bounded c.args.self.now) (omega arith)
