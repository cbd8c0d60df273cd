use Rattle.canonical.proofs.Reached.{each_reached_once}
use Rattle.canonical.proofs.each_reached_object_is_saved_once.Goals as goal

pub returns : goal.returns
returns c = each_reached_once
