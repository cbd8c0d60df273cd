use Rattle.std.proofs.Common.{length, take}
use Rattle.heap.specs.View.{state_of}
use Rattle.life.proofs.Turns.{Midway}
use Rattle.life.proofs.living.live.Given as goal

abbrev pub invariant-loop-k : goal.invariant-loop-k
invariant-loop-k g l =
    let see = state_of g.S.Store.words g.S.Store.spare in
    Midway g.L.Layout.shape (see l.initial.heap) (take (length l.initial.answers) l.calls) l.initial.answers
    l.k-iterator.iter.count (take l.k-iterator.n l.k-iterator.iter.iter.rest.now) l.answers (see l.heap)
