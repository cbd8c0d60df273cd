use Rattle.std.proofs.Common.{[], refl, arith}
use Rattle.image.specs.Pass.{state_of}
use Rattle.image.specs.Read.{body_role}
use Rattle.image.proofs.Stages.{body_step, body-start, going_step, value_step}
use Rattle.image.proofs.strict.Pass.body.Goals as goal

pub loop-position-init : goal.loop-position-init
loop-position-init g c =
    (omega arith, (state_of c.args.self.now, refl, ([], rw c.size-position-end.ensures (body-start c.args.self.now.reader.bytes.now c.args.self.now.objects g.L.Layout.shape c.args.object c.args.header (state_of c.args.self.now)))))

pub loop-position-preserved : goal.loop-position-preserved
loop-position-preserved g c =
    let q = c.in_ok-value.ensures in
    let p = c.loop-position.invariant.1 in
    let v = value_step c.args.self.now c.loop-position.self p.0 p.1 c.args.object c.body_role.result (body_role g.L.Layout.shape c.args.header c.loop-position.position) c.body_role.ensures q.0 _ q.1 q.2 in
    (omega arith, (q.0.1, v.1, (_, going_step (body_step c.args.self.now.reader.bytes.now c.args.self.now.objects g.L.Layout.shape c.args.object c.args.header) _ p.2.0 c.loop-position.position _ _ _ _ _ (omega arith) v.0 p.2.1)))
