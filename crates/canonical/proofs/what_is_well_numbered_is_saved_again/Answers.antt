use Rattle.canonical.proofs.SavedAgain.{saved_again}
use Rattle.canonical.proofs.what_is_well_numbered_is_saved_again.Goals as goal

pub returns : goal.returns
returns c = saved_again
