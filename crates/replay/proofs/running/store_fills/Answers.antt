use Rattle.std.proofs.Common.{◌≡◌, set, sym, ap, ◌∙◌, arith}
use Rattle.std.proofs.lemmas.List.{set_past}
use Rattle.tables.specs.Regions.{region_at}
use Rattle.replay.proofs.Fills.{fills-none, fills_more}
use Rattle.replay.proofs.running.store_fills.Goals as goal
use Rattle.replay.proofs.running.store_fills.Goals.{then-place-len, else-place-len}

pub loop-g-init : goal.loop-g-init
loop-g-init g c = fills-none _ 0 _

pub loop-g-preserved : goal.loop-g-preserved
loop-g-preserved g c =
    let gs = c.args.heap.now.memory.regions.entries in
    let n = c.loop-g.g in
    let fs = c.args.fills.now in
    let one : set c.loop-g.fills n (region_at gs n).fill ≡ _ = ap (λ l. set l n (region_at gs n).fill) c.loop-g.invariant ∙ fills_more gs n fs in
    elim c.if-place-len.branch [
      | then-place-len w ↦ w.fills-is ∙ ap (λ e. set c.loop-g.fills n e.fill) (w.get.ensures ∙ ap (λ s. region_at s.regions.entries n) w.memory-then-place-len.ensures) ∙ one
      | else-place-len w ↦ w.fills-is ∙ sym (set_past c.loop-g.fills n (region_at gs n).fill (omega (arith, w.if-place-len.false))) ∙ one
    ]
