use Rattle.std.proofs.Common.{arith}
use Rattle.saving.proofs.Walks.{count_whole}
use Rattle.saving.proofs.numbering.root_count.Goals as goal

pub loop-count-init : goal.loop-count-init
loop-count-init g c = record { low = omega arith; same = count_whole _ }
