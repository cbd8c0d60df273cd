use Rattle.canonical.proofs.SavedAlike.{content_alike}
use Rattle.canonical.proofs.what_is_saved_is_well_numbered_and_alike.Goals as goal

pub returns : goal.returns
returns c = content_alike
