use Rattle.canonical.proofs.SavedAlike.{alike_from_content}
use Rattle.canonical.proofs.graphs_of_one_content_are_alike.Goals as goal

pub returns : goal.returns
returns c = alike_from_content
