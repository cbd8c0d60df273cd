use Rattle.heap.specs.View.{state_of}
use Rattle.replay.proofs.Calls.{Running}
use Rattle.replay.proofs.running.run_calls.Given as goal

abbrev pub invariant-loop-k : goal.invariant-loop-k
invariant-loop-k g l =
    let see = state_of g.S.Store.words g.S.Store.spare in
    Running g.L.Layout.shape (see l.initial.heap) l.calls l.initial.answers l.k l.answers (see l.heap)
