use Rattle.std.proofs.Common.{◌≡◌, ◌+◌, ◌/◌, ◌++◌, length, drop, None, Some, sym, ap, ◌∙◌, subst, arith, rules}
use Rattle.std.proofs.Math.Seq.{take-length, drop-length}
use Rattle.std.proofs.lemmas.List.{append-nil}
use Rattle.heap.specs.View.{state_of}
use Rattle.life.specs.Serving.{served}
use Rattle.replay.specs.Running.{answered, call_at}
use Rattle.replay.proofs.Calls.{Running, left_none, left_full, one_more, all_run}
use Rattle.replay.proofs.running.run_calls.Goals as goal

pub returns-in_default : goal.returns-in_default
returns-in_default g c =
    let see = state_of g.S.Store.words g.S.Store.spare in
    let k = c.loop-k.k in
    let none : call_at c.args.calls.now k ≡ None = search rules in
    all_run g.L.Layout.shape (see c.args.heap.now) c.args.calls.now c.args.answers.now k c.loop-k.answers (see c.loop-k.heap)
    (left_none c.args.calls.now (length c.args.answers.now / 2) k none) c.loop-k.invariant

pub loop-k-preserved : goal.loop-k-preserved
loop-k-preserved g c =
    let see = state_of g.S.Store.words g.S.Store.spare in
    let S = g.L.Layout.shape in
    let ws = c.args.calls.now in
    let before = c.args.answers.now in
    let k = c.loop-k.k in
    let os = c.loop-k.answers in
    let t = see c.loop-k.heap in
    let call = c.in-Some.call in
    let some : call_at ws k ≡ Some call = search rules in
    let said : c.store_answer.new.answers ++ drop (length os) os ≡ answered os k (served S t call).0 =
    ap (λ l. c.store_answer.new.answers ++ l) (drop-length os) ∙ append-nil c.store_answer.new.answers ∙ c.store_answer.ensures
    ∙ ap (λ l. answered l k c.serve.result) (take-length os) ∙ ap (λ p. answered os k p.0) c.serve.ensures in
    let went : see c.serve.new.heap ≡ (served S t call).1 = ap (λ p. p.1) c.serve.ensures in
    subst (λ l. Running S (see c.args.heap.now) ws before (k + 1) l (see c.serve.new.heap)) (sym said)
    (subst (λ u. Running S (see c.args.heap.now) ws before (k + 1) (answered os k (served S t call).0) u) (sym went)
    (one_more S (see c.args.heap.now) ws before k os t call (omega arith) some c.loop-k.invariant))

pub returns : goal.returns
returns g c =
    let see = state_of g.S.Store.words g.S.Store.spare in
    let all : c.loop-k.k ≡ length c.args.answers.now / 2 = omega arith in
    let places : c.len-places.result / 2 ≡ c.loop-k.k = omega arith in
    ap (λ n. (n, c.loop-k.answers, see c.loop-k.heap)) places
    ∙ all_run g.L.Layout.shape (see c.args.heap.now) c.args.calls.now c.args.answers.now c.loop-k.k c.loop-k.answers (see c.loop-k.heap)
    (left_full c.args.calls.now (length c.args.answers.now / 2) c.loop-k.k (omega arith)) c.loop-k.invariant
