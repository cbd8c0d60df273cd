-- The list 0, 1, .., m, in which each value is its own number. Meeting a value that is at most one above m makes it the list up to
-- the greater of the two.
use Rattle.std.proofs.Common.{◌≡◌, ℕ, zero, suc, ◌<◌, ◌≤◌, max, ◌⊎◌, List, [], ◌∷◌, ◌++◌, length, get_or, refl, ap, ◌∙◌, inl, inr, arith}
use Rattle.std.proofs.lemmas.Bool.Decides.{nat_tests}
use Rattle.canonical.specs.Walk.{place_of, met}
use Rattle.canonical.proofs.Places.{place-end, met_cases, length-end}
use Rattle.canonical.proofs.Walking.{at_end}

abbrev pub upto : ℕ → List ℕ
upto zero = 0 ∷ []
upto (suc m) = upto m ++ (suc m ∷ [])

pub length-upto : (m : ℕ) → length (upto m) ≡ suc m
length-upto zero = refl
length-upto (suc m) = length-end (upto m) (suc m) ∙ ap suc (length-upto m)

pub place-upto : (v m : ℕ) → ((v ≤ m) × (place_of v (upto m) ≡ v)) ⊎ ((m < v) × (place_of v (upto m) ≡ suc m))
place-upto v zero = grind (arith, nat_tests)
place-upto v (suc m) = grind (arith, place-upto v m, place-end v (upto m) (suc m), length-upto m)

pub at_upto : (m k : ℕ) → k ≤ m → get_or (upto m) k 0 ≡ k
at_upto zero zero h = refl
at_upto zero (suc k) h = absurd (omega arith)
at_upto (suc m) k h =
    let ih : k ≤ m → get_or (upto m) k 0 ≡ k = at_upto m k in
    grind (arith, at_end (upto m) (suc m) k, length-upto m)

pub met-upto : (v m : ℕ) → v ≤ suc m → met v (upto m) ≡ upto (max m v)
met-upto v m h = elim (met_cases v (upto m)) [
  | inl u ↦
      (let l = u.0 in
      let e : m ≡ max m v = omega (arith, place-upto v m, length-upto m) in
      u.1 ∙ ap upto e)
  | inr u ↦
      (let l = u.0 in
      let e : v ≡ suc m = omega (arith, place-upto v m, length-upto m) in
      let k : suc m ≡ max m v = omega arith in
      u.1 ∙ ap (λ z. upto m ++ (z ∷ [])) e ∙ ap upto k)
]
