use Rattle.std.proofs.Common.{◌<◌, suc, None, length, get_or, subst, arith}
use Rattle.std.proofs.lemmas.Result.{err_from_is_err_and}
use Rattle.canonical.specs.Walk.{met}
use Rattle.memory.specs.Edits.{reference_to}
use Rattle.saving.specs.Numbering.{values}
use Rattle.saving.specs.Saved.{room}
use Rattle.saving.proofs.Meeting.{met_over}
use Rattle.saving.proofs.numbering.meet_roots.Goals as goal

pub returns-in_err-count : goal.returns-in_err-count
returns-in_err-count c =
    let before = values c.loop-root.list c.loop-root.count in
    let over : suc (room (length c.meet.new.list)) < length (met (reference_to (get_or c.args.roots.now c.loop-root.root-index None)) before) =
    subst (λ v. suc (room (length c.meet.new.list)) < length (met v before)) c.reference_to.ensures c.in_err-count.ensures.1 in
    let l : c.loop-root.root-index < length c.args.roots.now = omega arith in
    let p = err_from_is_err_and c.from_residual.result c.from_residual.ensures.1 in
    rw (p.1, p.2)
    (c.in_err-count.ensures.0, met_over reference_to c.args.roots.now c.loop-root.root-index None _ _ _ l over c.loop-root.invariant.goes)
