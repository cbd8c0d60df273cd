-- Making an object is refused for want of space only where there is none: the open region has no room, and fewer than two regions
-- are free. Where two are free, the search for a region to open finds one.
use Rattle.std.proofs.Common.{◌≡◌, ℕ, ◌≤◌, ltb, leb, Some, None, Option, Result, sym, refl, subst, arith}
use Rattle.layout.specs.Shape.{Shape}
use Rattle.memory.specs.State.{State}
use Rattle.memory.specs.Objects.{new_at, new_object}
use Rattle.model.specs.declared.edits.Refusal.{Refusal}
use Rattle.std.proofs.lemmas.Bool.{cond_both, leb-true, leb-false}
use Rattle.tables.specs.declared.regions.Regions.{Regions}
use Rattle.tables.specs.Regions.{free_count, next_free, room, appended, opening, opening_at, taken}
use Rattle.heap.specs.Effects.{Spaceless}
use Rattle.heap.proofs.Opening.{two_are_found}

module _ (S : Shape) (s : State) (root h : ℕ) where
  abbrev Fits : Result (Unit {0}) Refusal × State → Type 0
  Fits x = Spaceless S s h x.0

  -- what was found
  abbrev Found : Option ℕ × Regions → Type 0
  Found x = Fits (new_at s root h (S.size h) x)

  there : 2 ≤ free_count s.regions → (x : Option ℕ) → next_free s.regions ≡ x → Found (opening_at s.regions (S.size h) x)
  there two None e = absurd (two_are_found s.regions two e)
  there two (Some g) e = λ y. absurd (grind arith)

  placed : Found (taken s.regions (S.size h))
  placed =
      cond_both (room s.regions (S.size h)) (appended s.regions (S.size h)) _ Found
      (λ here y. absurd (grind arith))
      (λ full.
      cond_both (leb 2 (free_count s.regions)) (opening s.regions (S.size h)) (None, s.regions) Found
      (λ two. there (leb-true 2 (free_count s.regions) two) (next_free s.regions) refl)
      (λ few y. (full, leb-false 2 (free_count s.regions) few)))

  pub new_space : Spaceless S s h (new_object S s root h).0
  new_space =
      cond_both (ltb root 64) _ _ Fits
      (λ low. cond_both (S.legal h) _ _ Fits (λ legal. placed) (λ illegal y. absurd (grind arith)))
      (λ high y. absurd (grind arith))

  -- the same of a call that gives what the definition says
  pub space_as_defined : {x : Result (Unit {0}) Refusal × State} → x ≡ new_object S s root h → Spaceless S s h x.0
  space_as_defined e = subst Fits (sym e) new_space
