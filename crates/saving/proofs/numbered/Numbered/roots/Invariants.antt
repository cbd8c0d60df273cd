use Rattle.std.proofs.Common.{◌≡◌, map, drop}
use Rattle.std.specs.List.{fold}
use Rattle.memory.specs.Edits.{reference_to}
use Rattle.saving.specs.Passes.{number_in}
use Rattle.saving.proofs.numbered.Numbered.roots.Given as goal

abbrev pub invariant-loop-root : goal.invariant-loop-root
invariant-loop-root g l =
    fold g.P.Pass.step (l.at, l.output) (map (λ r. number_in l.self.entries.now (reference_to r)) (drop l.root-index l.roots))
    ≡ fold g.P.Pass.step (l.fn.at, l.fn.output) (map (λ r. number_in l.self.entries.now (reference_to r)) l.roots)
