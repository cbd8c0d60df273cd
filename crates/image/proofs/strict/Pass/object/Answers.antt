use Rattle.std.proofs.Common.{◌≡◌, Ok, sym, refl, ap, ◌∙◌}
use Rattle.std.proofs.lemmas.Result.{err_from_is_err_and}
use Rattle.image.specs.Pass.{at_place}
use Rattle.image.specs.Read.{number_at}
use Rattle.image.proofs.Stages.{number_is, object_undue, object_fault, object-illegal, object_stop, object_ok}
use Rattle.image.proofs.strict.Pass.object.Given as given
use Rattle.image.proofs.strict.Pass.object.Goals as goal
use Rattle.image.proofs.strict.Pass.object.Goals.{In_ok-header}

pub returns-then-number-self : goal.returns-then-number-self
returns-then-number-self g c =
    rw (c.at.ensures, c.position-place.ensures) (object_undue g.L.Layout.shape c.args.self.now.reader.bytes.now c.args.self.now.objects c.args.number c.args.self.now.greatest c.args.self.now.reader.position c.if-number-self.true)

pub returns-in_err-header : goal.returns-in_err-header
returns-in_err-header g c =
    let p = err_from_is_err_and c.from_residual.result c.from_residual.ensures.1 in
    rw (p.1, p.2) (object_fault g.L.Layout.shape c.args.self.now.reader.bytes.now c.args.self.now.objects c.args.number c.args.self.now.greatest c.args.self.now.reader.position c.if-number-self.false _ c.in_err-header.ensures.value)

-- the header, as the code names it
header : (g : given.Over) (c : In_ok-header g) →
    number_at c.args.self.now.reader.bytes.now c.args.number c.args.self.now.reader.position ≡ Ok (record { value = c.in_ok-header.header; next = c.number.new.self.position })
header g c =
    let q = c.in_ok-header.ensures.value in
    number_is c.args.self.now.reader.bytes.now c.args.number c.args.self.now.reader.position q.0 c.in_ok-header.header _ q.1 q.2.0 (ap (λ r. r.position) (sym q.2.1))

pub returns-then-not-legal : goal.returns-then-not-legal
returns-then-not-legal g c =
    rw (c.at-then-not-legal.ensures, c.position-place.ensures) (object-illegal g.L.Layout.shape c.args.self.now.reader.bytes.now c.args.self.now.objects c.args.number c.args.self.now.greatest c.args.self.now.reader.position c.if-number-self.false
    c.in_ok-header.header _ (header g (goal.at.returns-then-not-legal g c).In_ok-header) (sym c.if-not-legal.ensures))

pub returns-in_err-body : goal.returns-in_err-body
returns-in_err-body g c =
    let p = err_from_is_err_and c.from_residual-in_err-body.result c.from_residual-in_err-body.ensures.1 in
    let same = ap (λ r. r.bytes.now) c.in_ok-header.ensures.value.2.1 in
    rw (p.1, p.2) (object_stop g.L.Layout.shape c.args.self.now.reader.bytes.now c.args.self.now.objects c.args.number c.args.self.now.greatest c.args.self.now.reader.position c.if-number-self.false
    c.in_ok-header.header _ (header g (goal.at.returns-in_err-body g c).In_ok-header) (sym c.if-not-legal.ensures)
    _ (rw (← same) c.in_err-body.ensures))

pub returns : goal.returns
returns g c =
    let q = c.in_ok-header.ensures.value in
    let same = ap (λ r. r.bytes.now) q.2.1 in
    let b = c.in_ok-body.ensures in (
      _,
      object_ok g.L.Layout.shape c.args.self.now.reader.bytes.now c.args.self.now.objects c.args.number c.args.self.now.greatest c.args.self.now.reader.position c.if-number-self.false
          c.in_ok-header.header _ (header g (goal.at.returns g c).In_ok-header) (sym c.if-not-legal.ensures)
          b.0 (rw (← same) b.1),
      (refl, b.2 ∙ ap (λ r. record { reader = at_place r b.0.1.1; objects = c.args.self.now.objects; greatest = b.0.1.0 }) q.2.1),
    )
