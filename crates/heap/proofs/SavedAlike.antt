-- A heap that is tied to the heap that never collects is saved as that one is: with the same answer, and the same output.
use Rattle.std.proofs.Common.{◌≡◌, ℕ, List, length, ap}
use Rattle.layout.specs.Shape.{Shape, Lawful}
use Rattle.image.specs.Content.{Content}
use Rattle.model.specs.Edits.{graph_of as model_graph}
use Rattle.model.specs.Tied.{Tied}
use Rattle.memory.specs.State.{State}
use Rattle.canonical.specs.Saving.{content_of}
use Rattle.canonical.proofs.TiedAlike.{tied_content}
use Rattle.saving.specs.Saved.{saved}
use Rattle.heap.specs.Sound.{Sound}
use Rattle.heap.specs.Effects.{graph_of}
use Rattle.heap.specs.Images.{places}
use Rattle.heap.proofs.Reaching.{within}

pub saved_alike : (S : Shape) → Lawful S → (s : State) (c : Content) (ν : ℕ → ℕ) → Sound S s → Tied S (graph_of s) (model_graph c) ν →
    (n : ℕ) (out : List ℕ) →
    saved S (content_of S (graph_of s) places) n out ≡ saved S (content_of S (model_graph c) (length c.objects)) n out
saved_alike S law s c ν h t n out = ap (λ x. saved S x n out) (tied_content S law (graph_of s) c ν places (within h) t)
