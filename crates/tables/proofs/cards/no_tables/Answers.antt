use Rattle.tables.proofs.Tables.{tables_of_none}
use Rattle.tables.proofs.cards.no_tables.Goals as goal

pub returns : goal.returns
returns c = tables_of_none c.new.result c.new.ensures 32
