use Rattle.canonical.proofs.OneContent.{one_content}
use Rattle.canonical.proofs.alike_graphs_have_one_content.Goals as goal

pub returns : goal.returns
returns c = one_content
