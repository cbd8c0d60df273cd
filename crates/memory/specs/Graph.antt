-- The objects of a memory, and the references between them.
use Rattle.std.specs.Prelude.{◌+◌}
use Rattle.memory.specs.Edits.{reference_to}
use Rattle.memory.specs.State.{State, word_in, root_in}
use Rattle.model.specs.Graph.{Graph}

-- the objects by their places
abbrev pub graph_in : State → Graph
graph_in s =
    record {
      node = s.starts;
      head = λ p. word_in s p;
      field = λ p i. word_in s (p + i);
      root = λ k. reference_to (root_in s k);
    }
