-- A turn keeps what the loop keeps: its exchange only changes places, so the regions are still different, and it brings a
-- first one of the candidates that are left to the present place, after those already chosen.
use Rattle.std.proofs.Common.{arith}
use Rattle.std.proofs.lemmas.List.Sorted.{IsPermutation-trans}
use Rattle.policy.proofs.Choosing.{apart_shuffled, leads_more}
use Rattle.policy.proofs.choice.choose.Goals as goal

pub loop-place-preserved : goal.loop-place-preserved
loop-place-preserved g c =
    let policy = c.args.policy.now in
    let start = c.args.candidates.now in
    let xs = c.loop-place.candidates in
    let ys = c.bring_best.new.candidates in
    let inv = c.loop-place.invariant in (
      IsPermutation-trans start xs ys inv.0 c.bring_best.ensures.same,
      λ apart.
          leads_more (g.P.Policy.before policy) (g.met.P.Policy.ordered policy) xs ys c.loop-place.place (omega arith)
          c.bring_best.ensures.brought (apart_shuffled start xs inv.0 apart) (inv.1 apart),
    )
