use Rattle.std.proofs.Common.{[], refl, arith}
use Rattle.image.specs.Pass.{state_of}
use Rattle.image.specs.Read.{root_role}
use Rattle.image.proofs.Stages.{root_step, roots-start, going_step, value_step}
use Rattle.image.proofs.strict.Pass.roots.Goals as goal

pub loop-i-init : goal.loop-i-init
loop-i-init c = (state_of c.args.self.now, refl, ([], roots-start c.args.self.now.reader.bytes.now c.args.self.now.objects c.args.count (state_of c.args.self.now)))

pub loop-i-preserved : goal.loop-i-preserved
loop-i-preserved c =
    let q = c.in_ok-value.ensures in
    let p = c.loop-i.invariant in
    let v = value_step c.args.self.now c.loop-i.self p.0 p.1 0 c.root_role.result (root_role c.args.count c.loop-i.i) c.root_role.ensures q.0 _ q.1 q.2 in
    (q.0.1, v.1, (_, going_step (root_step c.args.self.now.reader.bytes.now c.args.self.now.objects c.args.count) _ p.2.0 c.loop-i.i _ _ _ _ _ (omega arith) v.0 p.2.1))
