use Rattle.std.proofs.Common.{◌≡◌, Ok, refl, ap, ◌∙◌, subst, arith}
use Rattle.image.specs.Pass.{at_place}
use Rattle.image.specs.Read.{number_at}
use Rattle.image.proofs.Stages.{number_is, counts_ok}
use Rattle.image.proofs.strict.counts.Goals as goal

pub returns : goal.returns
returns c =
    let n = c.in_ok-objects.ensures.value in
    let r = c.in_ok-roots.ensures.value in
    let objects = number_is c.args.reader.now.bytes.now 0 c.args.reader.now.position n.0 _ _ n.1 n.2.0 refl in
    let there : number_at c.args.reader.now.bytes.now 0 n.0.next ≡ Ok r.0 = subst (λ x. number_at x.bytes.now 0 x.position ≡ Ok r.0) n.2.1 r.1 in
    let roots = number_is c.args.reader.now.bytes.now 0 n.0.next r.0 _ _ there r.2.0 refl in (
      ((c.in_ok-objects.objects, c.in_ok-roots.roots), r.0.next),
      counts_ok c.args.reader.now.bytes.now c.args.reader.now.position _ _ _ _ objects roots (omega arith),
      (refl, r.2.1 ∙ ap (λ x. at_place x r.0.next) n.2.1),
    )
