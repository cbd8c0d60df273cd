-- The state of a heap.
use Rattle.std.specs.Prelude.{ℕ, List}
use Rattle.store.specs.declared.Store as store
use Rattle.layout.specs.declared.Layout as layout
use Rattle.memory.specs.State.{State, view}
use Rattle.heap.specs.declared.heap.Heap.{Heap}

abbrev pub state_of : {S L : Type 0} {store : store.Ghosts S} {layout : layout.Ghosts L} → (S → List ℕ) → (S → List ℕ) → Heap S L store layout → State
state_of words spare h = view words spare h.memory
