use Rattle.std.proofs.Common.{◌≡◌, suc, ◌<◌, [], ◌∷◌, length, take, ap, ◌∙◌, subst, arith}
use Rattle.heap.specs.View.{state_of}
use Rattle.std.proofs.lemmas.List.{length-take}
use Rattle.life.specs.Serving.{Lived}
use Rattle.life.proofs.Turns.{Midway, midway_more, midway_all, none_left, promised}
use Rattle.life.proofs.living.live.Goals as goal

pub loop-k-preserved : goal.loop-k-preserved
loop-k-preserved g c =
    let S = g.L.Layout.shape in
    let see = state_of {store = g.S.Store} {layout = g.L.Layout} g.S.Store.words g.S.Store.spare in
    let before = c.args.answers.now in
    let cs = take (length before) c.args.calls.now in
    let it = c.loop-k.k-iterator in
    let left = take c.next.new.self.n c.next.new.self.iter.iter.rest.now in
    let steps = c.in-Some.ensures.steps in
    let more : it.n ≡ suc c.next.new.self.n = omega (arith, steps.1) in
    let next : take it.n it.iter.iter.rest.now ≡ c.in-Some.call.now ∷ left = ap (take it.n) steps.0.0 ∙ ap (λ n. take n (c.in-Some.call.now ∷ c.next.new.self.iter.iter.rest.now)) more in
    let mid = subst (λ l. Midway S (see c.over-heap.result) cs before it.iter.count l c.loop-k.answers (see c.loop-k.heap)) next c.loop-k.invariant in
    let room : it.iter.count < length c.loop-k.answers = let n = mid.count in let m = length-take (length before) c.args.calls.now in omega (arith, mid.long) in
    rw (steps.0.1, steps.0.2)
    (midway_more S (see c.over-heap.result) cs before it.iter.count left c.loop-k.answers (see c.loop-k.heap) (see c.serve.new.heap) c.in-Some.call.now c.serve.result room c.serve.ensures mid)

pub returns : goal.returns
returns g c =
    let S = g.L.Layout.shape in
    let see = state_of {store = g.S.Store} {layout = g.L.Layout} g.S.Store.words g.S.Store.spare in
    let before = c.args.answers.now in
    let cs = take (length before) c.args.calls.now in
    let it = c.loop-k.k-iterator in
    let none : take it.n it.iter.iter.rest.now ≡ [] = none_left it.n it.iter.iter.rest.now (λ l. (c.in-None.ensures.steps l).0.0) in
    let mid = subst (λ l. Midway S (see c.over-heap.result) cs before it.iter.count l c.loop-k.answers (see c.loop-k.heap)) none c.loop-k.invariant in
    let lived : Lived S (see c.over-heap.result) cs before c.loop-k.answers (see c.loop-k.heap) = midway_all S (see c.over-heap.result) cs before it.iter.count c.loop-k.answers (see c.loop-k.heap) mid in
    let p = promised S g.met.L.Layout.lawful (g.S.Store.words c.args.store) (g.S.Store.spare c.args.store) cs before c.loop-k.answers (see c.loop-k.heap)
    (subst (λ s. Lived S s cs before c.loop-k.answers (see c.loop-k.heap)) c.over-heap.ensures.step lived) in
    record { exact = p.exact; faithful = p.faithful; tied = p.tied; marked = p.marked; sound = p.sound; outside = p.outside }
