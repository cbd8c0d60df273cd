-- A heap that is tied to the heap that never collects is saved as that one is.
use Rattle.std.specs.Prelude.{◌≡◌, ℕ, length}
use Rattle.layout.specs.Shape.{Shape}
use Rattle.image.specs.Content.{Content}
use Rattle.model.specs.Graph.{Graph}
use Rattle.model.specs.Edits.{graph_of}
use Rattle.model.specs.Tied.{Tied}
use Rattle.canonical.specs.Saving.{Within, content_of}
use Rattle.canonical.specs.Alike.{Alike}

-- tied graphs are alike, though the heap may hold nil in an object where the other holds what is gone
abbrev pub TiedAlike : Shape → Type 0
TiedAlike S = (h m : Graph) (ν : ℕ → ℕ) (n : ℕ) → Within S h n → Tied S h m ν → Alike S h m

-- so the two have one content
abbrev pub TiedContent : Shape → Type 0
TiedContent S =
    (h : Graph) (c : Content) (ν : ℕ → ℕ) (n : ℕ) → Within S h n → Tied S h (graph_of c) ν →
    content_of S h n ≡ content_of S (graph_of c) (length c.objects)
