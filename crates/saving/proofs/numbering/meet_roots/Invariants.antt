use Rattle.std.proofs.Common.{◌≡◌, ◌≤◌, [], ◌∷◌, length, map, drop}
use Rattle.canonical.specs.Walk.{all_met}
use Rattle.memory.specs.Edits.{reference_to}
use Rattle.saving.specs.Numbering.{values}
use Rattle.saving.specs.Saved.{room}
use Rattle.saving.proofs.numbering.meet_roots.Given as goal

abbrev pub invariant-loop-root : goal.invariant-loop-root
invariant-loop-root l =
    record {
      few : l.count ≤ room (length l.list);
      goes : all_met (map reference_to (drop l.root-index l.roots)) (values l.list l.count) ≡ all_met (map reference_to l.roots) (0 ∷ []);
    }
