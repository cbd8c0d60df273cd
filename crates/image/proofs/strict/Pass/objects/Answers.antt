use Rattle.std.proofs.Common.{◌≡◌, ◌+◌, ◌≤◌, [], refl, ap, ◌∙◌, arith}
use Rattle.image.specs.Pass.{state_of}
use Rattle.image.proofs.Stages.{object_step, objects-start, going_step, counted_step, object_step_on}
use Rattle.image.proofs.strict.Pass.objects.Goals as goal

pub loop-i-init : goal.loop-i-init
loop-i-init g c =
    (omega arith, (state_of c.args.self.now, refl, ([], objects-start c.args.self.now.reader.bytes.now c.args.self.now.objects g.L.Layout.shape (state_of c.args.self.now), record { total = refl; seen = refl })))

pub loop-i-preserved : goal.loop-i-preserved
loop-i-preserved g c =
    let q = c.in_ok-header.ensures in
    let p = c.loop-i.invariant.1 in
    let most : g.L.Layout.shape.size c.in_ok-header.header ≤ 64 = g.met.L.Layout.lawful.most c.in_ok-header.header in
    let size : c.from-words.result ≡ g.L.Layout.shape.size c.in_ok-header.header = c.from-words.ensures ∙ c.size.ensures in
    let o = object_step_on c.args.self.now c.loop-i.self p.0 p.1 g.L.Layout.shape (c.loop-i.i + 1) q.0 _ q.1 q.2.1 in (
      omega arith,
      (
        q.0.1,
        o.1,
        (
          _,
          going_step (object_step c.args.self.now.reader.bytes.now c.args.self.now.objects g.L.Layout.shape) _ p.2.0 (c.loop-i.i + 1) _ _ _ q.0.0 _ (omega arith) o.0 p.2.1,
          counted_step g.L.Layout.shape g.V.Visitor.next c.args.visitor.now c.loop-i.visitor _ p.2.0 c.loop-i.words _ c.in_ok-header.header q.0.0 p.2.2 q.2.0
              (ap (λ x. c.loop-i.words + x) size) c.object-in-loop-i.ensures,
        ),
      ),
    )
