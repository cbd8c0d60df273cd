use Rattle.std.proofs.Common.{◌≡◌, Ok, Err, sym, ap, ◌∙◌, rules}
use Rattle.std.proofs.lemmas.Result.{err_from_is_err_and}
use Rattle.image.specs.Read.{judged}
use Rattle.image.proofs.Mapped.{mapped_ok, mapped_err}
use Rattle.image.proofs.Stages.{value_fault, value_ok, value_judged}
use Rattle.image.proofs.strict.Pass.value.Goals as goal

pub returns-in_err-value : goal.returns-in_err-value
returns-in_err-value c =
    let p = err_from_is_err_and c.from_residual.result c.from_residual.ensures.1 in
    rw (p.1, p.2) (value_fault c.args.self.now.reader.bytes.now c.args.self.now.objects c.args.object c.args.role c.args.self.now.greatest c.args.self.now.reader.position _ c.in_err-value.ensures.value)

pub returns-in_err-self : goal.returns-in_err-self
returns-in_err-self c =
    let p = err_from_is_err_and c.from_residual-in_err-self.result c.from_residual-in_err-self.ensures.1 in
    let n = c.in_ok-value.ensures.value in
    let m = mapped_err _ _ _ _ c.map_err.ensures.cases c.in_err-self.was in
    let q = m.2 in
    let told : c.in_err-self.field-0.0 ≡ record { fault = m.0; place = c.args.self.now.reader.position; object = c.args.object } = search rules in
    let j : judged c.args.role c.args.self.now.objects c.args.self.now.greatest n.0.value ≡ Err m.0 =
    ap (λ v. judged c.args.role c.args.self.now.objects c.args.self.now.greatest v) n.2.0 ∙ sym c.judge-judged.ensures ∙ m.1 in
    rw (p.1, p.2) (value_judged c.args.self.now.reader.bytes.now c.args.self.now.objects c.args.object c.args.role c.args.self.now.greatest c.args.self.now.reader.position n.0 m.0 n.1 j ∙ ap Err (sym told))

pub returns : goal.returns
returns c =
    let n = c.in_ok-value.ensures.value in
    let j : judged c.args.role c.args.self.now.objects c.args.self.now.greatest n.0.value ≡ Ok c.in_ok-self.field-0 =
    ap (λ v. judged c.args.role c.args.self.now.objects c.args.self.now.greatest v) n.2.0 ∙ sym c.judge-judged.ensures ∙ mapped_ok _ _ _ _ c.map_err.ensures.cases c.in_ok-self.was in (
      (n.0.value, (c.in_ok-self.field-0, n.0.next)),
      value_ok c.args.self.now.reader.bytes.now c.args.self.now.objects c.args.object c.args.role c.args.self.now.greatest c.args.self.now.reader.position n.0 c.in_ok-self.field-0 n.1 j,
      ap (λ r. record { reader = r; objects = c.args.self.now.objects; greatest = c.in_ok-self.field-0 }) n.2.1,
    )
