use Rattle.std.proofs.Common.{◌<◌, ◌-◌, ◌^◌, length, arith}
use Rattle.saving.proofs.Ends.{refused_output, granted}
use Rattle.saving.proofs.numbered.Numbered.write.Goals as goal

pub returns-then-length-output : goal.returns-then-length-output
returns-then-length-output g c = refused_output g.L.Layout.shape _ c.args.output.now _ _ c.pass-length.ensures c.if-length-output.true

pub returns : goal.returns
returns g c =
    let short : length c.args.output.now < 2 ^ 64 - 1 = omega arith in
    granted g.L.Layout.shape _ c.args.output.now _ _ c.pass-length.ensures _ _ short c.if-length-output.false c.pass.ensures
