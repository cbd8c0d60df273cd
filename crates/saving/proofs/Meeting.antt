-- What a work list holds after values are met. It goes on as the definition does, and where the definition has more values than
-- there is room for, it never has fewer again.
use Rattle.std.proofs.Common.{◌≡◌, ℕ, suc, ◌+◌, ◌<◌, ◌≤◌, ◌≢◌, eqb, List, [], ◌∷◌, ◌++◌, length, map, take, drop, set, get_or, refl, ap, ◌∙◌, arith, add-one, drop-cons, take-suc-set}
use Rattle.std.specs.List.{position, position_or_len}
use Rattle.std.specs.Option.{unwrap_or}
use Rattle.std.proofs.lemmas.Bool.Decides.{nat_tests}
use Rattle.canonical.specs.Walk.{place_of, met, all_met}
use Rattle.canonical.proofs.Places.{place-at-most, all_met_begins, longer}
use Rattle.saving.specs.Numbering.{values}

pub place_is : (v : ℕ) (ws : List ℕ) → place_of v ws ≡ position_or_len (λ w. eqb w v) ws
place_is v [] = refl
place_is v (w ∷ ws) = let ih : place_of v ws ≡ position_or_len (λ w. eqb w v) ws = place_is v ws in grind (arith, nat_tests)

pub place_found : (v : ℕ) (ws : List ℕ) → unwrap_or (position (λ w. eqb w v) ws) (length ws) ≡ place_of v ws
place_found v ws = grind (arith, nat_tests, place_is v ws, place-at-most v ws)

-- nil, and what stands in the list, is not met anew
pub met_nil : (ws : List ℕ) → met 0 (0 ∷ ws) ≡ 0 ∷ ws
met_nil ws = grind (arith, nat_tests)

pub met_there : (v : ℕ) (ws : List ℕ) → place_of v ws < length ws → met v (0 ∷ ws) ≡ 0 ∷ ws
met_there v ws h = grind (arith, nat_tests)

-- another value comes to stand at the end
pub met_new : (v : ℕ) (ws : List ℕ) → v ≢ 0 → length ws ≤ place_of v ws → met v (0 ∷ ws) ≡ 0 ∷ (ws ++ (v ∷ []))
met_new v ws n h = grind (arith, nat_tests)

pub values_new : (list : List ℕ) (count v : ℕ) → count < length list → values (set list count v) (count + 1) ≡ 0 ∷ (take count list ++ (v ∷ []))
values_new list count v h = ap (λ xs. 0 ∷ xs) (rw add-one (take-suc-set list count v h))

module _ {A : Type 0} (f : A → ℕ) (xs : List A) (k : ℕ) (d : A) where
  -- one more value is met
  pub met_more : (ws us end : List ℕ) → k < length xs → us ≡ met (f (get_or xs k d)) ws →
      all_met (map f (drop k xs)) ws ≡ end → all_met (map f (drop (k + 1) xs)) us ≡ end
  met_more ws us end l e h = rw add-one (ap (all_met (map f (drop (suc k) xs))) e ∙ rw (drop-cons xs k d l) at h)

  pub met_over : (m : ℕ) (ws end : List ℕ) → k < length xs → m < length (met (f (get_or xs k d)) ws) →
      all_met (map f (drop k xs)) ws ≡ end → m < length end
  met_over m ws end l b h =
      let e : all_met (map f (drop (suc k) xs)) (met (f (get_or xs k d)) ws) ≡ end = rw (drop-cons xs k d l) at h in
      omega (arith, ap length e, longer (all_met_begins (map f (drop (suc k) xs)) (met (f (get_or xs k d)) ws)))
