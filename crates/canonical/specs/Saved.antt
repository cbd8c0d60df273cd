-- What is saved of a graph, as an image can say it, and as a graph again.
use Rattle.std.specs.Prelude.{◌≡◌, ℕ, ◌^◌, ◌<◌, ◌↔◌, length}
use Rattle.layout.specs.Shape.{Shape}
use Rattle.image.specs.Content.{Content, written}
use Rattle.image.specs.Numbering.{WellNumbered}
use Rattle.model.specs.Graph.{Graph}
use Rattle.model.specs.Edits.{graph_of}
use Rattle.canonical.specs.Saving.{content_of, Whole}
use Rattle.canonical.specs.Alike.{Alike}

-- what is saved of a graph is well numbered, and taken as a graph it is alike
abbrev pub SavedAlike : Shape → Type 0
SavedAlike S =
    (g : Graph) (n : ℕ) → Whole S g n → n < 2 ^ 32 →
    WellNumbered S (content_of S g n) × Alike S g (graph_of (content_of S g n))

-- a well-numbered content, taken as a graph, is saved as it is
abbrev pub SavedAgain : Shape → Type 0
SavedAgain S =
    (c : Content) → WellNumbered S c →
    Whole S (graph_of c) (length c.objects) × (content_of S (graph_of c) (length c.objects) ≡ c)

-- two graphs have one image exactly if they are alike
abbrev pub OneImage : Shape → Type 0
OneImage S =
    (g h : Graph) (n m : ℕ) → Whole S g n → Whole S h m → n < 2 ^ 32 → m < 2 ^ 32 →
    (written S (content_of S g n) ≡ written S (content_of S h m)) ↔ Alike S g h
