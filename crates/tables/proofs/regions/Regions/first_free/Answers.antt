use Rattle.std.proofs.Common.{◌≡◌, true, false, rules}
use Rattle.std.proofs.lemmas.Iterator.{first_from_Range}
use Rattle.tables.specs.Regions.{is_free_at}
use Rattle.tables.proofs.Finding.{first_between}
use Rattle.tables.proofs.regions.Regions.first_free.Goals as goal

pub returns : goal.returns
returns c =
    let f = is_free_at c.args.self.now.entries in
    first_between f c.args.a c.args.b c.find.result
    (first_from_Range _ _ _ c.find.result (λ k. f k ≡ true) (λ k. f k ≡ false) c.find.ensures.ran (λ x q k. search rules) (λ x q k. search rules))
