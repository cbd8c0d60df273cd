use Rattle.std.proofs.Common.{◌∙◌, Err, sym, refl, ap}
use Rattle.image.proofs.Numbers.{number_ok, number_fault}
use Rattle.image.proofs.source.Reader.number.Goals as goal

pub returns-in-Ok-clause-value : goal.returns-in-Ok-clause-value
returns-in-Ok-clause-value c =
    (c.in-Ok.number, number_ok c.args.self.now.bytes.now c.args.object c.args.self.now.position c.in-Ok.number c.in-Ok.ensures.value, (refl, refl))

pub returns-in-Err-clause-value : goal.returns-in-Err-clause-value
returns-in-Err-clause-value c =
    number_fault c.args.self.now.bytes.now c.args.object c.args.self.now.position c.in-Err.fault c.fault_place.result c.in-Err.ensures.value (sym c.fault_place.ensures) ∙ ap Err (sym c.at.ensures)
