-- The words of a new object are its header and then zeros, and every other word is as it was, since zeros are written only
-- after the header and as far as the object goes.
use Rattle.std.proofs.Common.{◌≡◌, ℕ, zero, suc, ◌+◌, ◌-◌, ◌<◌, ◌≤◌, ◌⊎◌, List, length, get_or, set, refl, ap, ◌∙◌, inl, inr, arith, length-set}
use Rattle.std.proofs.lemmas.List.{get_or-set_same, get_or-set_other}
use Rattle.std.proofs.lemmas.Bool.{cases_eq}
use Rattle.memory.specs.Objects.{zeroed}

pub zeros_length : (ws : List ℕ) (p n : ℕ) → length (zeroed ws p n) ≡ length ws
unfolding zeroed
zeros_length ws p zero = refl
zeros_length ws p (suc n) = length-set (zeroed ws p n) (p + n) 0 ∙ zeros_length ws p n

pub zeros_outside : (ws : List ℕ) (p n k : ℕ) → (k < p) ⊎ (p + n ≤ k) → get_or (zeroed ws p n) k 0 ≡ get_or ws k 0
unfolding zeroed
zeros_outside ws p zero k out = refl
zeros_outside ws p (suc n) k out =
    get_or-set_other (zeroed ws p n) (p + n) k 0 0 (λ z. omega arith) ∙ zeros_outside ws p n k (elim out [ inl l ↦ inl l | inr l ↦ inr (omega arith) ])

pub zeros_inside : (ws : List ℕ) (p n k : ℕ) → k < n → p + n ≤ length ws → get_or (zeroed ws p n) (p + k) 0 ≡ 0
unfolding zeroed
zeros_inside ws p zero k l m = absurd (omega arith)
zeros_inside ws p (suc n) k l m = elim (cases_eq (p + k) (p + n)) [
  | inl z ↦ ap (λ i. get_or (set (zeroed ws p n) (p + n) 0) i 0) z ∙ get_or-set_same (zeroed ws p n) (p + n) 0 0 (omega (arith, zeros_length ws p n))
  | inr z ↦ get_or-set_other (zeroed ws p n) (p + n) (p + k) 0 0 z ∙ zeros_inside ws p n k (omega arith) (omega arith)
]

-- an object of n words at p under the header h
module _ (ws : List ℕ) (p h n : ℕ) where
  abbrev with_object_lem : List ℕ
  with_object_lem = zeroed (set ws p h) (p + 1) (n - 1)

  pub object-length : length with_object_lem ≡ length ws
  object-length = zeros_length (set ws p h) (p + 1) (n - 1) ∙ length-set ws p h

  module _ (some : 1 ≤ n) where
    pub object_outside : (k : ℕ) → (k < p) ⊎ (p + n ≤ k) → get_or with_object_lem k 0 ≡ get_or ws k 0
    object_outside k out =
        zeros_outside (set ws p h) (p + 1) (n - 1) k (elim out [ inl l ↦ inl (omega arith) | inr l ↦ inr (omega arith) ])
        ∙ get_or-set_other ws p k h 0 (λ z. omega arith)

    module _ (fits : p + n ≤ length ws) where
      pub object-head : get_or with_object_lem p 0 ≡ h
      object-head = zeros_outside (set ws p h) (p + 1) (n - 1) p (inl (omega arith)) ∙ get_or-set_same ws p h 0 (omega arith)

      pub object-body : (i : ℕ) → 1 ≤ i → i < n → get_or with_object_lem (p + i) 0 ≡ 0
      object-body i a b =
          let e : p + i ≡ p + 1 + (i - 1) = omega arith in
          ap (λ k. get_or with_object_lem k 0) e ∙ zeros_inside (set ws p h) (p + 1) (n - 1) (i - 1) (omega arith) (omega (arith, length-set ws p h))
