use Rattle.canonical.proofs.TiedAlike.{tied_alike}
use Rattle.canonical.proofs.a_tied_heap_is_alike.Goals as goal

pub returns : goal.returns
returns c = tied_alike
