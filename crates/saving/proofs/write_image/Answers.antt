use Rattle.std.proofs.Common.{◌≡◌, ◌≤◌, ◌∷◌, length, sym, ap, ◌∙◌, arith}
use Rattle.std.proofs.lemmas.List.{length-take}
use Rattle.std.proofs.lemmas.Result.{err_from_is_err_and}
use Rattle.memory.specs.Graph.{graph_in}
use Rattle.memory.specs.State.{view}
use Rattle.canonical.specs.Saving.{order}
use Rattle.saving.specs.Saved.{room, fitted}
use Rattle.saving.proofs.Ends.{content_same, objects_few, refused_list, list_enough}
use Rattle.saving.proofs.write_image.Goals as goal

pub returns-in_err-count : goal.returns-in_err-count
returns-in_err-count g c =
    let graph = graph_in (view g.S.Store.words g.S.Store.spare c.args.memory.now) in
    let same : room (length c.number_objects.new.list) ≡ room (length c.args.list.now) = omega arith in
    let p = err_from_is_err_and c.from_residual.result c.from_residual.ensures.1 in
    rw (p.1, p.2)
    (refused_list g.L.Layout.shape graph (room (length c.args.list.now)) c.args.output.now _ _ same c.in_err-count.ensures.0 c.in_err-count.ensures.1)

pub returns : goal.returns
returns g c =
    let graph = graph_in (view g.S.Store.words g.S.Store.spare c.args.memory.now) in
    let n = room (length c.args.list.now) in
    let entries = c.of.result.entries.now in
    let order_is : 0 ∷ entries ≡ order g.L.Layout.shape graph n = ap (λ es. 0 ∷ es) c.of.ensures.entries ∙ c.in_ok-count.ensures.1 in
    let few : length entries ≤ n =
    omega (arith, ap length c.of.ensures.entries, length-take c.in_ok-count.count c.number_objects.new.list, c.in_ok-count.ensures.0) in
    let same : graph_in (view g.S.Store.words g.S.Store.spare c.of.result.memory.now) ≡ graph =
    ap (λ m. graph_in (view g.S.Store.words g.S.Store.spare m)) c.of.ensures.memory in
    c.write.ensures
    ∙ ap (λ x. fitted g.L.Layout.shape x c.args.output.now) (content_same g.L.Layout.shape graph _ n entries same order_is)
    ∙ sym (list_enough g.L.Layout.shape _ c.args.output.now n (objects_few g.L.Layout.shape graph _ n entries same order_is few))
