-- What a call of save answers, and what it leaves of the output.
use Rattle.std.specs.Prelude.{ℕ, min, cond, List, ◌++◌, length, drop, Ok, Err, Result, nat_lt}
use Rattle.layout.specs.Shape.{Shape}
use Rattle.image.specs.Content.{Content, written}
use Rattle.model.specs.declared.edits.Refusal.{Refusal}
use Rattle.model.specs.declared.edits.Refusal.TheVariants.{WorkListShort, OutputShort}

-- how many entries of a work list of n are used: there are no more places for objects in a memory
abbrev pub room : ℕ → ℕ
room n = min n 32768

-- what is answered for the image of a content, and the output after it: the image comes to stand at the start, or it has no room
-- and no byte is altered
unfoldable pub fitted : Shape → Content → List ℕ → Result ℕ Refusal × List ℕ
fitted S c output =
    cond (nat_lt (length output) (length (written S c))) (Err OutputShort, output)
    (Ok (length (written S c)), written S c ++ drop (length (written S c)) output)

-- the same where n objects can be numbered; the content may have more
unfoldable pub saved : Shape → Content → ℕ → List ℕ → Result ℕ Refusal × List ℕ
saved S c n output = cond (nat_lt n (length c.objects)) (Err WorkListShort, output) (fitted S c output)
