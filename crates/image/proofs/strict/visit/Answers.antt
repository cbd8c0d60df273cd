use Rattle.std.proofs.Common.{arith}
use Rattle.image.proofs.Exact.{exact}
use Rattle.image.proofs.Sizes.{read_within}
use Rattle.image.proofs.Stages.{follows_summarised}
use Rattle.image.proofs.strict.visit.Goals as goal

pub returns-clause-exact : goal.returns-clause-exact
returns-clause-exact g c = exact g.L.Layout.shape g.met.L.Layout.lawful c.args.bytes.now (λ i. omega (arith, c.type_inv.bytes i))

pub returns-clause-within : goal.returns-clause-within
returns-clause-within g c =
    read_within g.L.Layout.shape g.met.L.Layout.lawful c.args.bytes.now (λ i. omega (arith, c.type_inv.bytes i)) _ (follows_summarised g.L.Layout.shape _ _ _ c.read_image.ensures)
