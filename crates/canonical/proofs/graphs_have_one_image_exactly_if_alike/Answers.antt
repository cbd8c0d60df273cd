use Rattle.canonical.proofs.OneImage.{one_image}
use Rattle.canonical.proofs.graphs_have_one_image_exactly_if_alike.Goals as goal

pub returns : goal.returns
returns c = one_image
