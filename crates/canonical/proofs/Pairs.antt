-- Two lists of values that match place by place, where what matches is equal on one side exactly if it is on the other. Matching
-- values have the same place in both, so both go on matching as matching values are met and as they are walked.
use Rattle.std.proofs.Common.{◌≡◌, ℕ, zero, suc, Bool, true, false, ◌↔◌, cond, ltb, List, [], ◌∷◌, ◌++◌, map, drop, length, get_or, refl, ap, ap₂, arith}
use Rattle.std.proofs.lemmas.Bool.Decides.{nat_tests}
use Rattle.canonical.specs.Walk.{place_of, met, all_met, walked}

pub data Pairs (R : ℕ → ℕ → Type 0) : List ℕ → List ℕ → Type 0 where
  none : Pairs R [] []
  pair : {a b : ℕ} {xs ys : List ℕ} → R a b → Pairs R xs ys → Pairs R (a ∷ xs) (b ∷ ys)

module _ {R : ℕ → ℕ → Type 0} where
  pub pairs_length : {xs ys : List ℕ} → Pairs R xs ys → length xs ≡ length ys
  pairs_length none = refl
  pairs_length (pair r p) = ap suc (pairs_length p)

  pairs_end : (a b : ℕ) {xs ys : List ℕ} → R a b → Pairs R xs ys → Pairs R (xs ++ (a ∷ [])) (ys ++ (b ∷ []))
  pairs_end a b r none = pair r none
  pairs_end a b r (pair s p) = pair s (pairs_end a b r p)

  pub pairs_behind : {xs ys : List ℕ} → Pairs R xs ys → Pairs R (drop 1 xs) (drop 1 ys)
  pairs_behind none = none
  pairs_behind (pair r p) = p

  pub pairs_map : {A : Type 0} (f e : ℕ → A) → ((a b : ℕ) → R a b → f a ≡ e b) → {xs ys : List ℕ} → Pairs R xs ys → map f xs ≡ map e ys
  pairs_map f e h none = refl
  pairs_map f e h (pair {a = a} {b = b} r p) = ap₂ (λ x xs. x ∷ xs) (h a b r) (pairs_map f e h p)

module _ (R : ℕ → ℕ → Type 0) (nil : R 0 0) (one : (a b c d : ℕ) → R a b → R c d → (a ≡ c) ↔ (b ≡ d)) where
  pub pairs_place : (a b : ℕ) {xs ys : List ℕ} → R a b → Pairs R xs ys → place_of a xs ≡ place_of b ys
  pairs_place a b r none = refl
  pairs_place a b r (pair {a = c} {b = d} {xs = xs} {ys = ys} s p) =
      let ih : place_of a xs ≡ place_of b ys = pairs_place a b r p in
      let to : a ≡ c → b ≡ d = (one a b c d r s).0 in
      let from : b ≡ d → a ≡ c = (one a b c d r s).1 in
      grind (arith, nat_tests)

  pairs_met : (a b : ℕ) {xs ys : List ℕ} → R a b → Pairs R xs ys → Pairs R (met a xs) (met b ys)
  pairs_met a b {xs} {ys} r p = rw (pairs_place a b r p, pairs_length p) (by (ltb (place_of b ys) (length ys)))
    where
      by : (t : Bool) → Pairs R (cond t xs (xs ++ (a ∷ []))) (cond t ys (ys ++ (b ∷ [])))
      by true = p
      by false = pairs_end a b r p

  pub pairs_all_met : {vs us xs ys : List ℕ} → Pairs R vs us → Pairs R xs ys → Pairs R (all_met vs xs) (all_met us ys)
  pairs_all_met none p = p
  pairs_all_met (pair {a = a} {b = b} r q) p = pairs_all_met q (pairs_met a b r p)

  pairs_at : {xs ys : List ℕ} (k : ℕ) → Pairs R xs ys → R (get_or xs k 0) (get_or ys k 0)
  pairs_at k none = nil
  pairs_at zero (pair r p) = r
  pairs_at (suc k) (pair r p) = pairs_at k p

  pub pairs_walked : (to on : ℕ → List ℕ) → ((a b : ℕ) → R a b → Pairs R (to a) (on b)) → (f k : ℕ) {xs ys : List ℕ} → Pairs R xs ys →
      Pairs R (walked to f k xs) (walked on f k ys)
  pairs_walked to on h zero k p = p
  pairs_walked to on h (suc f) k {xs} {ys} p =
      pairs_walked to on h f (suc k) (pairs_all_met (h (get_or xs k 0) (get_or ys k 0) (pairs_at k p)) p)
