-- How a stage of the code is said to go as its definition, and what the check tells of an image.
use Rattle.std.specs.Prelude.{◌≡◌, ℕ, ◌≤◌, List, [], length, Ok, Err, Result}
use Rattle.layout.specs.Shape.{Shape}
use Rattle.image.specs.declared.refusals.Refusal.{Refusal}
use Rattle.image.specs.declared.strict.Summary.{Summary}
use Rattle.image.specs.Content.{Content, words, headers}

-- a result goes as a definition says: it refuses as that does, or both give a value, tied by P
abbrev pub Follows : {A B : Type 0} → Result A Refusal → Result B Refusal → (A → B → Type 0) → Type 0
Follows {A} {B} (Ok a) s P = (b : B) × (s ≡ Ok b) × P a b
Follows {A} {B} (Err f) s P = s ≡ Err f

-- what the strict check tells of an image
abbrev pub summary_of : Shape → Content → Summary
summary_of S c = record { objects = length c.objects; roots = length c.roots; words = words S c.objects }

abbrev pub summarised : Shape → Result Content Refusal → Result Summary Refusal
summarised S (Ok c) = Ok (summary_of S c)
summarised S (Err f) = Err f

abbrev pub headers_of : Result Content Refusal → List ℕ
headers_of (Ok c) = headers c.objects
headers_of (Err f) = []

-- an image has a byte at least for each word, and nothing is reported past its end
abbrev pub WithinBytes : List ℕ → Result Summary Refusal → Type 0
WithinBytes bs (Ok s) = s.words ≤ length bs
WithinBytes bs (Err f) = f.place ≤ length bs
