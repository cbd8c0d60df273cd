-- The first word that holds a member from `from` on has the answer at its lowest bit. After the last word that a number
-- reaches there is none.
use Rattle.std.proofs.Common.{◌≡◌, ◌+◌, ◌*◌, ◌/◌, ◌<◌, ◌≤◌, length, get_or, take, sym, ◌∙◌, subst, arith, rules}
use Rattle.std.proofs.lemmas.List.{get_or-take}
use Rattle.bitset.specs.Members.{members, in_words}
use Rattle.bitset.specs.Set.{First}
use Rattle.bitset.proofs.Digits.{Lowest}
use Rattle.bitset.proofs.Lists.{list_holds}
use Rattle.bitset.proofs.Look.{left_first, left_whole, pass, lowest_at, found, none_before, none_left}
use Rattle.bitset.proofs.Members.{members_reach}
use Rattle.bitset.proofs.Words.{Holds}
use Rattle.bitset.proofs.bits.BitSet.first.Given as given
use Rattle.bitset.proofs.bits.BitSet.first.Goals as goal

pub returns-in_err-get-clause-first : goal.returns-in_err-get-clause-first
returns-in_err-get-clause-first g c =
    let s = c.args.self.now in
    let m = c.min.result in
    let past : length (take m s.words) ≤ c.args.from / 64 = search rules in
    subst (First (members s) c.args.from) (sym c.from_residual.ensures)
    (none_left (members s) (64 * m) c.args.from (c.args.from / 64) (members_reach s m c.min.ensures) (none_before _ _) (omega arith))

pub loop-x-init : goal.loop-x-init
unfolding members
loop-x-init g c =
    let ws = c.args.self.now.words in
    let from = c.args.from in
    let here : c.in_ok-get.field-0.now ≡ get_or (take c.min.result ws) (from / 64) 0 = search rules in
    let inside : from / 64 < length (take c.min.result ws) = search rules in (
      inside,
      omega arith,
      omega arith,
      none_before (in_words ws) from,
      left_first ws c.min.result from c.in_ok-get.field-0.now c.from-x.result (omega arith) (omega arith) here (omega arith) c.from-x.ensures,
    )

pub returns-in_err-x-clause-first : goal.returns-in_err-x-clause-first
returns-in_err-x-clause-first g c =
    let s = c.args.self.now in
    let m = c.min.result in
    let f = members s in
    let past : length (take m s.words) ≤ c.loop-x.w + 1 = search rules in
    subst (First f c.args.from) (sym c.from_residual-in_err-x.ensures)
    (none_left f (64 * m) c.args.from (c.loop-x.w + 1) (members_reach s m c.min.ensures)
    (pass f c.args.from c.loop-x.w c.loop-x.x c.loop-x.invariant.3 c.loop-x.invariant.4 (omega arith)) (omega arith))

pub loop-x-preserved : goal.loop-x-preserved
unfolding members
loop-x-preserved g c =
    let ws = c.args.self.now.words in
    let f = in_words ws in
    let m = c.min.result in
    let v = c.loop-x.w + 1 in
    let inside : v < length (take m ws) = search rules in
    let here : c.in_ok-x.field-0.now ≡ get_or (take m ws) v 0 = search rules in
    let word = here ∙ get_or-take m ws v 0 (omega arith) in (
      inside,
      omega arith,
      omega arith,
      pass f c.args.from c.loop-x.w c.loop-x.x c.loop-x.invariant.3 c.loop-x.invariant.4 (omega arith),
      left_whole f c.args.from v c.in_ok-x.field-0.now (omega arith) (subst (Holds f v) (sym word) (list_holds ws v (omega arith))),
    )

lowest : (g : given.Over) (c : goal.After-lowest g) → Lowest 64 c.loop-x.x c.lowest.result
lowest g c = lowest_at c.loop-x.x c.lowest.result (omega arith) (omega arith) c.lowest.ensures

pub returns-clause-first : goal.returns-clause-first
returns-clause-first g c =
    found (members c.args.self.now) c.args.from c.loop-x.w c.loop-x.x c.lowest.result c.loop-x.invariant.3 c.loop-x.invariant.4 (lowest g c)
