-- Where a value stands in a list, and how that changes as values are met. A list only grows at its end, so what stands in it
-- keeps its place.
use Rattle.std.proofs.Common.{◌≡◌, ℕ, zero, suc, ◌<◌, ◌≤◌, ◌≢◌, ◌⊎◌, List, [], ◌∷◌, ◌++◌, length, get_or, sym, refl, ap, ◌∙◌, inl, inr, append-nil, append_assoc, arith, length-append}
use Rattle.std.proofs.lemmas.Bool.Decides.{nat_tests}
use Rattle.std.proofs.lemmas.List.{get_or_append_left}
use Rattle.canonical.specs.Walk.{place_of, met, all_met}

-- the value stands in the list
abbrev pub In : List ℕ → ℕ → Type 0
In ws v = place_of v ws < length ws

pub place-at-most : (v : ℕ) (ws : List ℕ) → place_of v ws ≤ length ws
place-at-most v [] = omega arith
place-at-most v (w ∷ ws) = let ih : place_of v ws ≤ length ws = place-at-most v ws in grind (arith, nat_tests)

pub at_place : (v : ℕ) (ws : List ℕ) → In ws v → get_or ws (place_of v ws) 0 ≡ v
at_place v [] h = absurd (omega arith)
at_place v (w ∷ ws) h = let ih : In ws v → get_or ws (place_of v ws) 0 ≡ v = at_place v ws in grind (arith, nat_tests)

place-longer : (v : ℕ) (ws us : List ℕ) → In ws v → place_of v (ws ++ us) ≡ place_of v ws
place-longer v [] us h = absurd (omega arith)
place-longer v (w ∷ ws) us h = let ih : In ws v → place_of v (ws ++ us) ≡ place_of v ws = place-longer v ws us in grind (arith, nat_tests)

pub length-end : (ws : List ℕ) (v : ℕ) → length (ws ++ (v ∷ [])) ≡ suc (length ws)
length-end [] v = refl
length-end (w ∷ ws) v = ap suc (length-end ws v)

-- where u stands after v is put at the end: where it stood, or there if it is v, or nowhere
pub place-end : (u : ℕ) (ws : List ℕ) (v : ℕ) →
    (In ws u × (place_of u (ws ++ (v ∷ [])) ≡ place_of u ws))
    ⊎ ((place_of u ws ≡ length ws)
    × (((u ≡ v) × (place_of u (ws ++ (v ∷ [])) ≡ length ws)) ⊎ ((u ≢ v) × (place_of u (ws ++ (v ∷ [])) ≡ suc (length ws)))))
place-end u [] v = grind (arith, nat_tests)
place-end u (w ∷ ws) v = grind (arith, nat_tests, place-end u ws v)

-- meeting a value does nothing, or puts it at the end
pub met_cases : (v : ℕ) (ws : List ℕ) → (In ws v × (met v ws ≡ ws)) ⊎ ((place_of v ws ≡ length ws) × (met v ws ≡ ws ++ (v ∷ [])))
met_cases v ws = grind (arith, nat_tests, place-at-most v ws)

pub place-met : (v : ℕ) (ws : List ℕ) → place_of v (met v ws) ≡ place_of v ws
place-met v ws = grind (arith, nat_tests, place-end v ws v)

pub in_met : (v : ℕ) (ws : List ℕ) → In (met v ws) v
in_met v ws = grind (arith, nat_tests, place-at-most v ws, length-end, place-end v ws v)

-- us begins with ws
pub record Begins (ws us : List ℕ) : Type 0 where
  pub rest : List ℕ
  pub is : us ≡ ws ++ rest

pub begins_itself : (ws : List ℕ) → Begins ws ws
begins_itself ws = record { rest = []; is = sym (append-nil ws) }

pub begins_more : {ws us xs : List ℕ} → Begins ws us → Begins us xs → Begins ws xs
begins_more {ws} {us} {xs} p q = record { rest = p.rest ++ q.rest; is = q.is ∙ ap (λ z. z ++ q.rest) p.is ∙ append_assoc ws p.rest q.rest }

pub met_begins : (v : ℕ) (ws : List ℕ) → Begins ws (met v ws)
met_begins v ws = elim (met_cases v ws) [
  | inl u ↦ record { rest = []; is = u.1 ∙ sym (append-nil ws) }
  | inr u ↦ record { rest = v ∷ []; is = u.1 }
]

pub all_met_begins : (vs ws : List ℕ) → Begins ws (all_met vs ws)
all_met_begins [] ws = begins_itself ws
all_met_begins (v ∷ vs) ws = begins_more (met_begins v ws) (all_met_begins vs (met v ws))

module _ {ws us : List ℕ} (b : Begins ws us) where
  pub place-kept : (v : ℕ) → In ws v → place_of v us ≡ place_of v ws
  place-kept v h = rw b.is (place-longer v ws b.rest h)

  pub at_kept : (k : ℕ) → k < length ws → get_or us k 0 ≡ get_or ws k 0
  at_kept k h = rw b.is (get_or_append_left ws b.rest 0 k h)

  pub longer : length ws ≤ length us
  longer = omega (arith, length-append ws b.rest, ap length b.is)

  pub in_kept : (v : ℕ) → In ws v → In us v
  in_kept v h = omega (arith, place-kept v h, longer)

-- what stands at some place stands in the list
pub in_from_place : (v : ℕ) (ws : List ℕ) (k d : ℕ) → k < length ws → get_or ws k d ≡ v → In ws v
in_from_place v [] k d l e = absurd (omega arith)
in_from_place v (w ∷ ws) zero d l e = grind (arith, nat_tests)
in_from_place v (w ∷ ws) (suc k) d l e = let ih : In ws v = in_from_place v ws k d (omega arith) e in grind (arith, nat_tests)
