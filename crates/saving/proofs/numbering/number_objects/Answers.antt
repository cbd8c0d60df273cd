use Rattle.std.proofs.Common.{◌≡◌, ◌<◌, length, arith}
use Rattle.std.proofs.lemmas.Result.{err_from_is_err_and}
use Rattle.memory.specs.Graph.{graph_in}
use Rattle.memory.specs.State.{view}
use Rattle.saving.specs.Saved.{room}
use Rattle.saving.proofs.Walks.{began, began_over, goes_on, goes_over, goes_to}
use Rattle.saving.proofs.numbering.number_objects.Goals as goal

pub returns-in_err-count : goal.returns-in_err-count
returns-in_err-count g c =
    let s = view g.S.Store.words g.S.Store.spare c.args.memory.now in
    let same : room (length c.meet_roots.new.list) ≡ room (length c.args.list.now) = omega arith in
    let p = err_from_is_err_and c.from_residual.result c.from_residual.ensures.1 in
    rw (p.1, p.2)
    (c.in_err-count.ensures.0, began_over g.L.Layout.shape s c.root_count-used.result _ _ c.root_count-used.ensures.count same c.in_err-count.ensures.1)

pub loop-k-init : goal.loop-k-init
loop-k-init g c =
    let s = view g.S.Store.words g.S.Store.spare c.args.memory.now in
    record {
      few = c.in_ok-count.ensures.0;
      goes = began g.L.Layout.shape s c.root_count-used.result (room (length c.meet_roots.new.list)) _ c.root_count-used.ensures.count c.in_ok-count.ensures.1;
    }

pub returns-in_err-count-2 : goal.returns-in_err-count-2
returns-in_err-count-2 g c =
    let graph = graph_in (view g.S.Store.words g.S.Store.spare c.args.memory.now) in
    let n = room (length c.loop-k.list) in
    let same : room (length c.args.list.now) ≡ n = omega arith in
    let within : c.loop-k.k < n = omega (arith, c.loop-k.invariant.few, c.loop-k-test.true) in
    let p = err_from_is_err_and c.from_residual-in_err-count-2.result c.from_residual-in_err-count-2.ensures.1 in
    rw (p.1, p.2)
    (c.in_err-count-2.ensures.0, goes_over g.L.Layout.shape graph n _ c.loop-k.k c.loop-k.count c.loop-k.list within c.loop-k-test.true same c.loop-k.invariant.goes _ c.in_err-count-2.ensures.1)

pub loop-k-preserved : goal.loop-k-preserved
loop-k-preserved g c =
    let graph = graph_in (view g.S.Store.words g.S.Store.spare c.args.memory.now) in
    let n = room (length c.loop-k.list) in
    let same : room (length c.meet_referents.new.list) ≡ n = omega arith in
    let within : c.loop-k.k < n = omega (arith, c.loop-k.invariant.few, c.loop-k-test.true) in
    record {
      few = c.in_ok-count-2.ensures.0;
      goes = goes_on g.L.Layout.shape graph n _ c.loop-k.k c.loop-k.count c.loop-k.list within c.loop-k-test.true same c.loop-k.invariant.goes _ c.in_ok-count-2.ensures.1;
    }

pub returns : goal.returns
returns g c =
    let graph = graph_in (view g.S.Store.words g.S.Store.spare c.args.memory.now) in
    let same : room (length c.args.list.now) ≡ room (length c.loop-k.list) = omega arith in
    let few = c.loop-k.invariant.few in
    (omega arith, goes_to g.L.Layout.shape graph (room (length c.loop-k.list)) _ c.loop-k.k c.loop-k.count c.loop-k.list same c.loop-k-test.false c.loop-k.invariant.goes)
