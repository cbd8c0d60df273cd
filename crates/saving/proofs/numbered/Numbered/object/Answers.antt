use Rattle.std.proofs.Common.{◌≡◌, ◌<◌, cond, sym, ap, ◌∙◌, arith}
use Rattle.std.proofs.lemmas.Bool.{cond-true, cond-false}
use Rattle.memory.specs.Graph.{graph_in}
use Rattle.memory.specs.State.{view}
use Rattle.saving.specs.Passes.{number_in}
use Rattle.saving.proofs.Turns.{word_more}
use Rattle.saving.proofs.numbered.Numbered.object.Goals as goal
use Rattle.saving.proofs.numbered.Numbered.object.Goals.{then-is_reference, else-is_reference}

pub loop-position-preserved : goal.loop-position-preserved
loop-position-preserved g c =
    let shape = g.L.Layout.shape in
    let h = c.word-header.result in
    let p = c.loop-position.position in
    let number = number_in c.args.self.now.entries.now in
    let word = (graph_in (view g.S.Store.words g.S.Store.spare c.args.self.now.memory.now)).field c.in-Some.place in
    let l : p < shape.size h = omega (arith, c.size-position-end.ensures, c.loop-position-test.true) in
    let value : c.if-is_reference.value ≡ cond (shape.reference h p) (number (word p)) (word p) = elim c.if-is_reference.branch [
      | then-is_reference w ↦
          w.value-is ∙ w.number-value.ensures ∙ ap number c.word-word.ensures ∙ sym (cond-true _ _ _ (sym c.is_reference.ensures ∙ w.if-is_reference.true))
      | else-is_reference w ↦
          w.value-is ∙ c.word-word.ensures ∙ sym (cond-false _ _ _ (sym c.is_reference.ensures ∙ w.if-is_reference.false))
    ] in
    word_more g.P.Pass.step (shape.reference h) word number p (shape.size h) l c.if-is_reference.value _ _ _ value c.number-at-in-loop-position.ensures c.loop-position.invariant
