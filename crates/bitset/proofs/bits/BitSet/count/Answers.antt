-- The range is counted by its parts: what is left of the first word, the words between, and the front of the last. A part
-- past the last word of the set has no members.
use Rattle.std.proofs.Common.{◌≡◌, ◌+◌, ◌-◌, ◌*◌, ◌/◌, get_or, length, take, drop, refl, length-take, length-drop, sym, ap, ◌∙◌, ⊎_elim, arith, rules}
use lib.Count.{ones}
use Rattle.std.proofs.lemmas.Bool.{cases_lt}
use Rattle.bitset.specs.Members.{members, in_words}
use Rattle.bitset.specs.Set.{tally}
use Rattle.bitset.proofs.Members.{members_bounded}
use Rattle.bitset.proofs.Ranges.{below, below_fits, start-size, part_tally, end_size, within_size}
use Rattle.bitset.proofs.Set.{tally-none, tally-gap, tally_join, tally-past, tally_le}
use Rattle.bitset.proofs.bits.BitSet.count.Given as given
use Rattle.bitset.proofs.bits.BitSet.count.Goals as goal

pub returns-then-a-b : goal.returns-then-a-b
returns-then-a-b g c =
    let f = members c.args.self.now in
    ⊎_elim (λ h. tally-none f c.args.a c.args.b h)
    (λ h. sym (tally-gap f c.args.a (c.args.b - c.args.a) (λ k l m. members_bounded c.args.self.now k (omega arith))))
    c.then-a-b.either

pub returns-then-low-high : goal.returns-then-low-high
unfolding members
returns-then-low-high g c =
    c.size.ensures
    ∙ within_size c.args.self.now.words c.args.a c.args.b c.from.result c.below.result (omega arith) (omega arith) (omega arith)
    (omega arith) (omega arith) c.from.ensures c.below.ensures

-- the parts
parts : (g : given.Over) (c : goal.After-map_or-end g)
    → c.size-start.result + c.total-between.result + c.map_or-end.result ≡ tally (members c.args.self.now) c.args.a (c.args.b - c.args.a)
unfolding members
parts g c =
    let ws = c.args.self.now.words in
    let f = in_words ws in
    let a = c.args.a in
    let b = c.args.b in
    let w = a / 64 + 1 in
    let h = c.min.result in
    let n = h - w in
    let start = c.size-start.ensures ∙ start-size ws a c.from-2.result (omega arith) (omega arith) (omega arith) c.from-2.ensures in
    let long : length (take n (drop w ws)) ≡ n = simp (length-take, length-drop) (omega arith) in
    let ends : 64 * n ≡ 64 * h - 64 * w = omega arith in
    let mid = c.total-between.ensures ∙ ap (λ k. tally (in_words (take n (drop w ws))) 0 (64 * k)) long
    ∙ part_tally ws w n (omega arith) ∙ ap (tally f (64 * w)) ends in
    let front : c.size-start.result + c.total-between.result ≡ tally f a (64 * h - a) =
    omega (arith, start, mid, tally_join f a (64 * w) (64 * h) (omega arith) (omega arith)) in
    ⊎_elim
    (λ l.
    let last : c.map_or-end.result ≡ ones (below (get_or ws (b / 64) 0) b) = search rules in
    let same : h ≡ b / 64 = omega arith in
    let before = front ∙ ap (λ v. tally f a (64 * v - a)) same in
    omega (
      arith,
      before,
      last,
      end_size ws b (below (get_or ws (b / 64) 0) b) (omega arith) (below_fits _ b) refl,
      tally_join f a (64 * (b / 64)) b (omega arith) (omega arith),
    ))
    (λ l.
    let none : c.map_or-end.result ≡ 0 = search rules in
    let same : h ≡ g.row.W = omega arith in
    let before = front ∙ ap (λ v. tally f a (64 * v - a)) same in
    omega (arith, before, none, tally-past f a (64 * g.row.W) b (members_bounded c.args.self.now) (omega arith) (omega arith)))
    (cases_lt (b / 64) (length ws))

pub overflow_add-result : goal.overflow_add-result
overflow_add-result g c = omega (arith, parts g c, tally_le (members c.args.self.now) c.args.a (c.args.b - c.args.a))

pub overflow_add-result-2 : goal.overflow_add-result-2
overflow_add-result-2 g c = omega (arith, parts g c, tally_le (members c.args.self.now) c.args.a (c.args.b - c.args.a))

pub returns : goal.returns
returns g c = parts g c
