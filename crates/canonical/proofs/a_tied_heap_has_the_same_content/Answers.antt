use Rattle.canonical.proofs.TiedAlike.{tied_content}
use Rattle.canonical.proofs.a_tied_heap_has_the_same_content.Goals as goal

pub returns : goal.returns
returns c = tied_content
