use Rattle.std.proofs.Common.{◌∙◌, arith, rules}
use Rattle.std.specs.List.{range_with_len}
use Rattle.std.proofs.lemmas.Iterator.{YieldsList-from_range}
use Rattle.std.proofs.lemmas.Iterator.Consumers.{YieldsList-from_filter, count_from_yields_List}
use Rattle.std.proofs.lemmas.List.Sums.{length-filter}
use Rattle.tables.specs.Regions.{is_free_at}
use Rattle.tables.proofs.Finding.{count-range}
use Rattle.tables.proofs.regions.Regions.count_free.Goals as goal

pub returns : goal.returns
returns c =
    let f = is_free_at c.args.self.now.entries in
    let n = c.args.self.now.count in
    count_from_yields_List c.filter.result c.count.result c.count.ensures.ran
    (YieldsList-from_filter _ f (YieldsList-from_range 0 n n (search rules) (omega arith)) c.filter.ensures.closure (λ x b q k. search rules))
    ∙ length-filter f (range_with_len 0 n) ∙ count-range f 0 n
