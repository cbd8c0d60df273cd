-- Refining, one card at a time.
use Rattle.std.specs.Prelude.{ℕ, zero, suc, ◌+◌, ◌-◌, ◌*◌, ◌/◌, cond, Some, None, Option, ◌==◌}
use Rattle.bitset.specs.Set.{first_of}
use Rattle.layout.specs.Shape.{Shape}
use Rattle.memory.specs.State.{State, word_in, with_cards}
use Rattle.tables.specs.Cards.{cleaned, remembering}
use Rattle.marking.specs.declared.refining.Refined.{Refined as Refinement}
use Rattle.marking.specs.declared.refining.Refined.TheVariants.{Refined, Clean}

-- card d is entered in the table of the region that a reference leads to, if that is not the card's own
abbrev pub entering : State → ℕ → ℕ → State
entering s d w =
    cond (w == 0) s (cond ((w - 1) / 1024 == d / 16) s (with_cards s (remembering s.cards ((w - 1) / 1024) d)))

-- so for the word at position i, if that is a reference of the object at p
abbrev pub enter_field : Shape → State → ℕ → ℕ → ℕ → ℕ → State
enter_field S s d p h i = cond (S.reference h i) (entering s d (word_in s (p + i))) s

-- for the first n positions after the header
unfoldable pub enter_fields : Shape → State → ℕ → ℕ → ℕ → ℕ → State
enter_fields S s d p h zero = s
enter_fields S s d p h (suc n) = enter_field S (enter_fields S s d p h n) d p h (suc n)

-- for the object at p, if one starts there
abbrev pub enter_object : Shape → State → ℕ → ℕ → State
enter_object S s d p = cond (s.starts p) (enter_fields S s d p (word_in s p) (S.size (word_in s p) - 1)) s

-- for those that start in the first n words of the card
unfoldable pub enter_objects : Shape → State → ℕ → ℕ → State
enter_objects S s d zero = s
enter_objects S s d (suc n) = enter_object S (enter_objects S s d n) d (64 * d + n)

abbrev pub refine_next : Shape → State → Option ℕ → Refinement × State
refine_next S s None = (Clean, s)
refine_next S s (Some d) = (Refined, with_cards (enter_objects S s d 64) (cleaned (enter_objects S s d 64).cards d))

-- the lowest dirty card is entered in the table of each other region that its objects refer to, and is then clean
abbrev pub refine_step : Shape → State → Refinement × State
refine_step S s = refine_next S s (first_of s.cards.dirty 0 512)
