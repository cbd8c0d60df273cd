-- What is run of calls that are given as words, and what is left of it in the caller's lists.
use Rattle.std.specs.Prelude.{ℕ, zero, suc, ◌+◌, ◌*◌, ◌/◌, Bool, cond, ◌||◌, List, [], ◌∷◌, ◌++◌, length, take, drop, Some, None, Option, Result, ◌==◌, nat_lt, slice_index, slice_set}
use Rattle.layout.specs.Cabling.{cabling}
use Rattle.layout.specs.Counted.{counted}
use Rattle.layout.specs.Shape.{Shape}
use Rattle.life.specs.Serving.{after, answers}
use Rattle.life.specs.declared.calls.Answer.{Answer}
use Rattle.life.specs.declared.calls.Call.{Call}
use Rattle.memory.specs.Objects.{making}
use Rattle.memory.specs.State.{State}
use Rattle.model.specs.declared.edits.Refusal.{Refusal}
use Rattle.tables.specs.Regions.{region_at}
use Rattle.tables.specs.declared.region.Region.{Region}
use Rattle.replay.specs.Codes.{decoded, kind_of, value_of}

-- a call and those after it; none where the code is unknown
abbrev pub up_to : Option Call → List Call → List Call
up_to None cs = []
up_to (Some c) cs = c ∷ cs

-- the calls that words stand for, four words each: the whole ones, up to the first whose code is unknown
abbrev pub calls_in : List ℕ → List Call
calls_in [] = []
calls_in (code ∷ []) = []
calls_in (code ∷ a ∷ []) = []
calls_in (code ∷ a ∷ b ∷ []) = []
calls_in (code ∷ a ∷ b ∷ c ∷ ws) = up_to (decoded code a b c) (calls_in ws)

-- the call with a number
abbrev pub call_at : List ℕ → ℕ → Option Call
call_at ws k =
    cond (nat_lt k (length ws / 4)) (decoded (slice_index ws (4 * k)) (slice_index ws (4 * k + 1)) (slice_index ws (4 * k + 2)) (slice_index ws (4 * k + 3))) None

-- the words of answers, two each
abbrev pub words_of : List (Result Answer Refusal) → List ℕ
words_of [] = []
words_of (a ∷ more) = kind_of a ∷ value_of a ∷ words_of more

-- the words of an answer, put in the places of answer k
abbrev pub answered : List ℕ → ℕ → Result Answer Refusal → List ℕ
answered os k a = slice_set (slice_set os (2 * k) (kind_of a)) (2 * k + 1) (value_of a)

-- the calls that are run: as many as there are whole answers
abbrev pub asked : List ℕ → List ℕ → List Call
asked ws os = take (length os / 2) (calls_in ws)

-- how many calls were run, the answers then, and the heap then
abbrev pub all_served : Shape → State → List Call → List ℕ → ℕ × List ℕ × State
all_served S s cs os = (length cs, words_of (answers S s cs) ++ drop (2 * length cs) os, after S s cs)

-- the fills of n regions from g on, put in the places that there are
abbrev pub fills_from : List Region → ℕ → ℕ → List ℕ → List ℕ
fills_from gs g n [] = []
fills_from gs g zero (f ∷ fs) = f ∷ fs
fills_from gs g (suc n) (f ∷ fs) = (region_at gs g).fill ∷ fills_from gs (suc g) n fs

abbrev pub fills_of : State → List ℕ → List ℕ
fills_of s fs = fills_from s.regions.entries 0 s.regions.count fs

-- how many calls were run, and then the answers and the fills
abbrev pub ran : Shape → List ℕ → List ℕ → List ℕ → List ℕ → ℕ × List ℕ × List ℕ
ran S ws words os fs =
    let p = all_served S (making words []) (asked ws os) os in
    (p.0, p.1, fills_of p.2 fs)

-- the same for the layout with a sign; where there is none, no call is run and nothing is altered
abbrev pub replayed : ℕ → List ℕ → List ℕ → List ℕ → List ℕ → ℕ × List ℕ × List ℕ
replayed sign ws words os fs =
    cond (sign == 1) (ran counted ws words os fs) (cond (sign == 2) (ran cabling ws words os fs) (0, os, fs))

-- whether a layout has the sign
abbrev pub is_sign : ℕ → Bool
is_sign sign = sign == 1 || sign == 2
