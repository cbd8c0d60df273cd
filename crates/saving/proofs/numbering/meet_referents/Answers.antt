use Rattle.std.proofs.Common.{◌≡◌, ◌<◌, ◌≤◌, suc, cond, length, sym, ap, ap₂, ◌∙◌, subst, arith}
use Rattle.std.proofs.lemmas.Bool.{cond-true, cond-false}
use Rattle.std.proofs.lemmas.Result.{err_from_is_err_and}
use Rattle.canonical.specs.Walk.{met}
use Rattle.memory.specs.Graph.{graph_in}
use Rattle.memory.specs.State.{view}
use Rattle.saving.specs.Numbering.{values}
use Rattle.saving.specs.Saved.{room}
use Rattle.saving.proofs.Turns.{referent_more, referent_over}
use Rattle.saving.proofs.numbering.meet_referents.Goals as goal
use Rattle.saving.proofs.numbering.meet_referents.Goals.{then-is_reference+in_ok-count, else-is_reference}

pub returns-in_err-count : goal.returns-in_err-count
returns-in_err-count g c =
    let shape = g.L.Layout.shape in
    let h = c.word-header.result in
    let position = c.loop-position.position in
    let word = (graph_in (view g.S.Store.words g.S.Store.spare c.args.memory.now)).field c.in-Some.place in
    let l : position < shape.size h = omega (arith, c.size-position-end.ensures, c.loop-position-test.true) in
    let before = values c.loop-position.list c.loop-position.count in
    let over : suc (room (length c.meet.new.list)) < length (met (word position) before) =
    subst (λ v. suc (room (length c.meet.new.list)) < length (met v before)) c.word-word.ensures c.in_err-count.ensures.1 in
    let p = err_from_is_err_and c.from_residual.result c.from_residual.ensures.1 in
    rw (p.1, p.2)
    (c.in_err-count.ensures.0, referent_over (shape.reference h) word position (shape.size h) l _ _ _ (sym c.is_reference.ensures ∙ c.if-is_reference.true) over c.loop-position.invariant.goes)

pub loop-position-preserved : goal.loop-position-preserved
loop-position-preserved g c =
    let shape = g.L.Layout.shape in
    let h = c.word-header.result in
    let position = c.loop-position.position in
    let before = values c.loop-position.list c.loop-position.count in
    let word = (graph_in (view g.S.Store.words g.S.Store.spare c.args.memory.now)).field c.in-Some.place in
    let l : position < shape.size h = omega (arith, c.size-position-end.ensures, c.loop-position-test.true) in
    let few : c.if-is_reference.count ≤ room (length c.if-is_reference.list) = elim c.if-is_reference.branch [
      | then-is_reference+in_ok-count w ↦ omega (arith, w.count-is, ap length w.list-is, w.in_ok-count.ensures.0)
      | else-is_reference w ↦ omega (arith, w.count-is, ap length w.list-is, c.loop-position.invariant.few)
    ] in
    let step : values c.if-is_reference.list c.if-is_reference.count ≡ cond (shape.reference h position) (met (word position) before) before =
    elim c.if-is_reference.branch [
      | then-is_reference+in_ok-count w ↦
          ap₂ values w.list-is w.count-is ∙ w.in_ok-count.ensures.1 ∙ ap (λ v. met v before) w.word-word.ensures
          ∙ sym (cond-true _ _ _ (sym c.is_reference.ensures ∙ w.if-is_reference.true))
      | else-is_reference w ↦ ap₂ values w.list-is w.count-is ∙ sym (cond-false _ _ _ (sym c.is_reference.ensures ∙ w.if-is_reference.false))
    ] in
    record { few = few; goes = referent_more (shape.reference h) word position (shape.size h) l _ _ _ step c.loop-position.invariant.goes }
