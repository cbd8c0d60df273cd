use Rattle.std.proofs.Common.{ap, ◌∙◌}
use Rattle.replay.specs.Running.{all_served, asked, fills_of}
use Rattle.replay.proofs.running.run.Goals as goal

pub returns : goal.returns
returns g c =
    let S = g.L.Layout.shape in
    let os = c.args.answers.now in
    let cs = asked c.args.calls.now os in
    ap (λ fs. (c.run_calls-count.result, c.run_calls-count.new.answers, fs)) c.store_fills.ensures
    ∙ ap (λ p. (p.0, p.1, fills_of p.2 c.args.fills.now))
    (c.run_calls-count.ensures ∙ ap (λ s. all_served S s cs os) c.over-heap.ensures.step)
