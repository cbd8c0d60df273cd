-- The list of values as it is walked. It only grows, and a step past its end changes nothing. What the values in it refer to
-- comes to stand in it, and what holds of the first values and of all that such values refer to holds of all. It has no value
-- twice: its length and the number of values up to n that do not stand in it make n + 1, so it ends.
use Rattle.std.proofs.Common.{◌≡◌, ℕ, zero, suc, ◌+◌, ◌<◌, ◌≤◌, ◌≢◌, ◌⊎◌, cond, ltb, List, [], ◌∷◌, ◌++◌, length, get_or, sym, refl, ap, ◌∙◌, subst, inl, inr, arith}
use Rattle.std.specs.List.{AllByRecursion as Each}
use Rattle.std.proofs.lemmas.Bool.{cases_eq, cases_lt}
use Rattle.std.proofs.lemmas.Bool.Decides.{nat_tests}
use Rattle.std.proofs.lemmas.List.{get_or_past}
use Rattle.canonical.specs.Walk.{place_of, met, all_met, walked}
use Rattle.canonical.proofs.Places.{In, place-end, met_cases, in_met, length-end, Begins, begins_itself, begins_more, all_met_begins, at_kept, in_kept}

-- what holds of each value of a list, and of nil, holds of what is read at any place
pub each_at : (P : ℕ → Type 0) (xs : List ℕ) (k : ℕ) → P 0 → Each P xs → P (get_or xs k 0)
each_at P [] k z a = z
each_at P (x ∷ xs) zero z a = a.0
each_at P (x ∷ xs) (suc k) z a = each_at P xs k z a.1

pub each_weaker : {P Q : ℕ → Type 0} → ((v : ℕ) → P v → Q v) → (xs : List ℕ) → Each P xs → Each Q xs
each_weaker c [] a = tt
each_weaker c (x ∷ xs) a = (c x a.0, each_weaker c xs a.1)

each_end : (P : ℕ → Type 0) (xs : List ℕ) (v : ℕ) → Each P xs → P v → Each P (xs ++ (v ∷ []))
each_end P [] v a p = (p, tt)
each_end P (x ∷ xs) v a p = (a.0, each_end P xs v a.1 p)

-- what is met stands in the list
pub all_met_in : (vs ws : List ℕ) → Each (In (all_met vs ws)) vs
all_met_in [] ws = tt
all_met_in (v ∷ vs) ws = (in_kept (all_met_begins vs (met v ws)) v (in_met v ws), all_met_in vs (met v ws))

-- what stays true when a value that has P is met stays true when such values are met one after another
pub all_met_keeps : (P : ℕ → Type 0) (Q : List ℕ → Type 0) → ((v : ℕ) (ws : List ℕ) → P v → Q ws → Q (met v ws)) →
    (vs ws : List ℕ) → Each P vs → Q ws → Q (all_met vs ws)
all_met_keeps P Q step [] ws p q = q
all_met_keeps P Q step (v ∷ vs) ws p q = all_met_keeps P Q step vs (met v ws) p.1 (step v ws p.0 q)

pub met_each : (P : ℕ → Type 0) (v : ℕ) (ws : List ℕ) → P v → Each P ws → Each P (met v ws)
met_each P v ws p a = elim (met_cases v ws) [ inl u ↦ subst (Each P) (sym u.1) a | inr u ↦ subst (Each P) (sym u.1) (each_end P ws v a p) ]

-- how many numbers below n do not stand in ws
abbrev pub missing : ℕ → List ℕ → ℕ
missing zero ws = 0
missing (suc n) ws = cond (ltb (place_of n ws) (length ws)) 0 1 + missing n ws

missing-above : (n v : ℕ) (ws : List ℕ) → n ≤ v → missing n (ws ++ (v ∷ [])) ≡ missing n ws
missing-above zero v ws h = refl
missing-above (suc n) v ws h =
    let ih : missing n (ws ++ (v ∷ [])) ≡ missing n ws = missing-above n v ws (omega arith) in
    grind (arith, nat_tests, place-end n ws v, length-end ws v)

missing-end : (n v : ℕ) (ws : List ℕ) → v < n → place_of v ws ≡ length ws → suc (missing n (ws ++ (v ∷ []))) ≡ missing n ws
missing-end zero v ws h a = absurd (omega arith)
missing-end (suc n) v ws h a = elim (cases_eq v n) [
  | inl e ↦
      (let m : missing n (ws ++ (v ∷ [])) ≡ missing n ws = missing-above n v ws (omega arith) in
      grind (arith, nat_tests, place-end n ws v, length-end ws v))
  | inr d ↦
      (let m : suc (missing n (ws ++ (v ∷ []))) ≡ missing n ws = missing-end n v ws (omega arith) a in
      grind (arith, nat_tests, place-end n ws v, length-end ws v))
]

-- no value stands twice, and none is above n
abbrev pub Single : ℕ → List ℕ → Type 0
Single n ws = length ws + missing (suc n) ws ≡ suc n

pub nil_single : (n : ℕ) → Single n (0 ∷ [])
nil_single n = omega (arith, go n)
  where
    go : (m : ℕ) → missing (suc m) (0 ∷ []) ≡ m
    go zero = refl
    go (suc m) = let ih : missing (suc m) (0 ∷ []) ≡ m = go m in grind (arith, nat_tests)

pub met_single : (n v : ℕ) (ws : List ℕ) → v ≤ n → Single n ws → Single n (met v ws)
met_single n v ws h a = elim (met_cases v ws) [
  | inl u ↦ subst (Single n) (sym u.1) a
  | inr u ↦ subst (Single n) (sym u.1) (omega (arith, missing-end (suc n) v ws (omega arith) u.0, length-end ws v))
]

-- the value at a place does not stand at an earlier one
abbrev pub Distinct : List ℕ → Type 0
Distinct ws = (k : ℕ) → k < length ws → place_of (get_or ws k 0) ws ≡ k

pub nil_distinct : Distinct (0 ∷ [])
nil_distinct zero h = refl
nil_distinct (suc k) h = absurd (omega arith)

-- what stands at a place after v is put at the end
pub at_end : (ws : List ℕ) (v k : ℕ) → ((k ≡ length ws) × (get_or (ws ++ (v ∷ [])) k 0 ≡ v)) ⊎ ((k ≢ length ws) × (get_or (ws ++ (v ∷ [])) k 0 ≡ get_or ws k 0))
at_end [] v zero = inl (refl, refl)
at_end [] v (suc k) = inr (omega arith, refl)
at_end (w ∷ ws) v zero = inr (omega arith, refl)
at_end (w ∷ ws) v (suc k) = grind (arith, at_end ws v k)

end_distinct : (ws : List ℕ) (v : ℕ) → place_of v ws ≡ length ws → Distinct ws → Distinct (ws ++ (v ∷ []))
end_distinct ws v a d k h = elim (at_end ws v k) [
  | inl u ↦ (let e : k ≡ length ws = u.0 in rw u.1 (omega (arith, place-end v ws v)))
  | inr u ↦
      (let l : k < length ws = omega (arith, u.0, length-end ws v) in
      let q : place_of (get_or ws k 0) ws ≡ k = d k l in
      rw u.1 (omega (arith, place-end (get_or ws k 0) ws v)))
]

pub met_distinct : (v : ℕ) (ws : List ℕ) → Distinct ws → Distinct (met v ws)
met_distinct v ws d = elim (met_cases v ws) [ inl u ↦ subst Distinct (sym u.1) d | inr u ↦ subst Distinct (sym u.1) (end_distinct ws v u.0 d) ]

module _ (to : ℕ → List ℕ) (nothing : to 0 ≡ []) where
  abbrev pub next : ℕ → List ℕ → List ℕ
  next k ws = all_met (to (get_or ws k 0)) ws

  pub walked_begins : (f k : ℕ) (ws : List ℕ) → Begins ws (walked to f k ws)
  walked_begins zero k ws = begins_itself ws
  walked_begins (suc f) k ws = begins_more (all_met_begins (to (get_or ws k 0)) ws) (walked_begins f (suc k) (next k ws))

  pub walked_past : (f k : ℕ) (ws : List ℕ) → length ws ≤ k → walked to f k ws ≡ ws
  walked_past zero k ws h = refl
  walked_past (suc f) k ws h =
      let still : next k ws ≡ ws = ap (λ v. all_met (to v) ws) (get_or_past ws k 0 h) ∙ ap (λ vs. all_met vs ws) nothing in
      ap (walked to f (suc k)) still ∙ walked_past f (suc k) ws (omega arith)

  -- any number of steps that reaches the end gives the same list
  pub walked_same : (f e k : ℕ) (ws : List ℕ) → length (walked to f k ws) ≤ k + f → length (walked to e k ws) ≤ k + e →
      walked to f k ws ≡ walked to e k ws
  walked_same zero e k ws h i = sym (walked_past e k ws (omega arith))
  walked_same (suc f) zero k ws h i = walked_past (suc f) k ws (omega arith)
  walked_same (suc f) (suc e) k ws h i = walked_same f e (suc k) (next k ws) (omega arith) (omega arith)

  -- what a value from place k on refers to stands in the list at the end
  pub walked_closed : (f k : ℕ) (ws : List ℕ) (j : ℕ) → length (walked to f k ws) ≤ k + f → k ≤ j → j < length (walked to f k ws) →
      Each (In (walked to f k ws)) (to (get_or (walked to f k ws) j 0))
  walked_closed zero k ws j h l b = absurd (omega arith)
  walked_closed (suc f) k ws j h l b = elim (cases_eq j k) [
    | inr d ↦ walked_closed f (suc k) (next k ws) j (omega arith) (omega arith) b
    | inl e ↦ elim (cases_lt k (length ws)) [
      | inr ge ↦ absurd (omega (arith, ap length (walked_past (suc f) k ws ge)))
      | inl lt ↦
          rw (e, at_kept (walked_begins (suc f) k ws) k lt)
          (each_weaker (in_kept (walked_begins f (suc k) (next k ws))) (to (get_or ws k 0)) (all_met_in (to (get_or ws k 0)) ws))
    ]
  ]

  -- it stays true on a walk, where nil has P, and what a value that has P refers to has P
  pub walked_keeps : (P : ℕ → Type 0) (Q : List ℕ → Type 0) → ((v : ℕ) (ws : List ℕ) → P v → Q ws → Q (met v ws)) →
      P 0 → ((v : ℕ) → P v → Each P (to v)) → (f k : ℕ) (ws : List ℕ) → Each P ws → Q ws → Each P (walked to f k ws) × Q (walked to f k ws)
  walked_keeps P Q step nil keep zero k ws a q = (a, q)
  walked_keeps P Q step nil keep (suc f) k ws a q =
      let vs : List ℕ = to (get_or ws k 0) in
      let more : Each P vs = keep (get_or ws k 0) (each_at P ws k nil a) in
      walked_keeps P Q step nil keep f (suc k) (next k ws) (all_met_keeps P (Each P) (met_each P) vs ws more a) (all_met_keeps P Q step vs ws more q)
