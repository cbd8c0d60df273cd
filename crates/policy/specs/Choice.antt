-- What it is to choose the first of a list of summaries by an order.
use Rattle.std.specs.Prelude.{◌≡◌, ℕ, ◌<◌, ◌≤◌, Bool, true, false, List, length, take, slice_index_or}
use Rattle.std.specs.List.Sorted.{IsPermutation}
use Rattle.std.specs.List.{swap}
use Rattle.policy.specs.declared.Summary.{Summary}

-- what is read past the end of a list
abbrev pub blank : Summary
blank = record { region = 0; live = 0; fill = 0; stamp = 0 }

-- the summary at a place of a list
abbrev pub summary_at : List Summary → ℕ → Summary
summary_at xs i = slice_index_or xs i blank

-- no two of the summaries are of one region
abbrev pub Apart : List Summary → Type 0
Apart xs = (i j : ℕ) → i < length xs → j < length xs → (summary_at xs i).region ≡ (summary_at xs j).region → i ≡ j

-- of the places from `from` to below `to`, r is one whose summary no other of them comes before
abbrev pub FirstOf : (Summary → Summary → Bool) → List Summary → ℕ → ℕ → ℕ → Type 0
FirstOf before xs from to r =
    (from ≤ r) × (r < to) × ((k : ℕ) → from ≤ k → k < to → before (summary_at xs k) (summary_at xs r) ≡ false)

-- ys is xs with the summary at a place exchanged for a first one of those from there on
abbrev pub Brought : (Summary → Summary → Bool) → List Summary → ℕ → List Summary → Type 0
Brought before xs place ys = (b : ℕ) × FirstOf before xs place (length xs) b × (ys ≡ swap xs place b)

-- each of the first c comes before all that stand after it: they are in order, and the others come later
abbrev pub Leads : (Summary → Summary → Bool) → ℕ → List Summary → Type 0
Leads before c xs = (i j : ℕ) → i < c → i < j → j < length xs → before (summary_at xs i) (summary_at xs j) ≡ true

-- of summaries of different regions there is one way to put the first c in front
abbrev pub OneChoice : (Summary → Summary → Bool) → Type 0
OneChoice before =
    (xs ys zs : List Summary) (c : ℕ) → Apart xs → IsPermutation xs ys → IsPermutation xs zs →
    Leads before c ys → Leads before c zs → take c ys ≡ take c zs
