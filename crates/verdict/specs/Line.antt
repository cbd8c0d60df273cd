-- The line that is printed for a verdict.
use Rattle.std.specs.Prelude.{ℕ, List, ◌++◌, codes, decimal}
use Rattle.image.specs.Read.{refusal_of}
use Rattle.verdict.specs.declared.Verdict.{Verdict}
use Rattle.verdict.specs.declared.Verdict.TheVariants as verdict

-- a refusal with its place and its object
abbrev pub refusal_line : ℕ → ℕ → ℕ → List ℕ
refusal_line number place object =
    codes "refused " ++ (decimal number ++ (codes " at " ++ (decimal place ++ (codes " object " ++ decimal object))))

abbrev pub line_of : Verdict → List ℕ
line_of verdict.TooLong = codes "too long"
line_of (verdict.Faulty f) = refusal_line (refusal_of f.fault) f.place f.object
line_of verdict.NoSpace = refusal_line 33 0 0
line_of (verdict.Sound s) =
    codes "ok " ++ (decimal s.objects ++ (codes " objects " ++ (decimal s.roots ++ (codes " roots " ++ (decimal s.words ++ codes " words")))))
