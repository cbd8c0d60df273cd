-- One step of the choice: a first one of the candidates from a place on changes places with the one that stands there. Each of
-- those already chosen still comes before all after it, since the exchange only moves summaries that stand after it.
use Rattle.std.proofs.Common.{◌≡◌, ℕ, ◌+◌, ◌<◌, Bool, true, false, cond, eqb, List, [], ◌∷◌, length, sym, refl, ap, ◌∙◌, ⊎_elim, arith}
use Rattle.std.proofs.lemmas.List.Edits.{Swapped, swapped_from_swap, length-swap}
use Rattle.std.proofs.lemmas.List.Sorted.{IsPermutation-keeps}
use Rattle.std.proofs.lemmas.Bool.{cases_eq, both_ways, not-false}
use Rattle.std.proofs.lemmas.Bool.Decides.{nat_tests}
use Rattle.std.specs.List.Sorted.{IsPermutation}
use Rattle.std.specs.List.{swap}
use Rattle.policy.specs.declared.Summary.{Summary}
use Rattle.policy.specs.Order.{Ordered}
use Rattle.policy.specs.Choice.{blank, summary_at, Apart, Brought, FirstOf, Leads}

-- ys is xs with the summaries at a and b in each other's place
abbrev Exchanged : List Summary → List Summary → ℕ → ℕ → Type 0
Exchanged xs ys a b = (length ys ≡ length xs) × Swapped (summary_at xs) (summary_at ys) a b

exchanged_at : (xs ys : List Summary) (a b : ℕ) → a < length xs → b < length xs → ys ≡ swap xs a b → Exchanged xs ys a b
exchanged_at [] ys a b la lb e = absurd (omega arith)
exchanged_at (x ∷ xs) ys a b la lb e =
    (ap length e ∙ length-swap (x ∷ xs) a b, swapped_from_swap (x ∷ xs) ys a b blank la lb e)

-- where the summary at the place m stood before the exchange
abbrev origin : ℕ → ℕ → ℕ → ℕ
origin a b m = cond (eqb m a) b (cond (eqb m b) a m)

at_origin : (xs ys : List Summary) (a b : ℕ) → Exchanged xs ys a b → (m : ℕ) → summary_at ys m ≡ summary_at xs (origin a b m)
at_origin xs ys a b e m =
    ⊎_elim (λ p. let t : origin a b m ≡ b = grind (arith, nat_tests) in rw t (ap (summary_at ys) p ∙ e.1.0))
    (λ n. ⊎_elim (λ p. let t : origin a b m ≡ a = grind (arith, nat_tests) in rw t (ap (summary_at ys) p ∙ e.1.1))
    (λ k. let t : origin a b m ≡ m = grind (arith, nat_tests) in rw t (e.1.2 m n k))
    (cases_eq m b))
    (cases_eq m a)

-- an exchange keeps the regions different
apart_exchanged : (xs ys : List Summary) (a b : ℕ) → a < length xs → b < length xs → Exchanged xs ys a b → Apart xs → Apart ys
apart_exchanged xs ys a b la lb e apart i j li lj same =
    let region : Summary → ℕ = λ s. s.region in
    let there : (summary_at xs (origin a b i)).region ≡ (summary_at xs (origin a b j)).region =
    ap region (sym (at_origin xs ys a b e i)) ∙ same ∙ ap region (at_origin xs ys a b e j) in
    let one : origin a b i ≡ origin a b j =
    apart (origin a b i) (origin a b j) (grind (arith, nat_tests)) (grind (arith, nat_tests)) there in
    grind (arith, nat_tests)

pub apart_shuffled : (xs ys : List Summary) → IsPermutation xs ys → Apart xs → Apart ys
apart_shuffled xs ys sh apart = IsPermutation-keeps xs Apart apart step ys sh
  where
    step : (l : List Summary) (i j : ℕ) → i < length l → j < length l → Apart l → Apart (swap l i j)
    step l i j li lj = apart_exchanged l (swap l i j) i j li lj (exchanged_at l (swap l i j) i j li lj refl)

module _ (before : Summary → Summary → Bool) (o : Ordered before) where
  -- no two come before one another
  pub one_way : (a b : Summary) → before a b ≡ true → before b a ≡ true → ⊥
  one_way a b p q = both_ways (before a a) (o.irreflexive a) (o.transitive a b a p q)

  -- of two places, the one that the other does not come before comes first
  ahead : (xs : List Summary) (i j : ℕ) → Apart xs → i < length xs → j < length xs → (i ≡ j → ⊥) →
      before (summary_at xs j) (summary_at xs i) ≡ false → before (summary_at xs i) (summary_at xs j) ≡ true
  ahead xs i j apart li lj ne late =
      let x = summary_at xs i in
      let y = summary_at xs j in
      not-false (before x y) (sym (o.decided x y (λ e. ne (apart i j li lj e))) ∙ late)

  -- the one brought to p comes before all after it, and those below p stay ahead of all that moved
  leads_exchanged : (xs ys : List Summary) (p b : ℕ) → FirstOf before xs p (length xs) b → Exchanged xs ys p b →
      Apart xs → Leads before p xs → Leads before (p + 1) ys
  leads_exchanged xs ys p b f e apart l i j li lt lj =
      rw (at_origin xs ys p b e i, at_origin xs ys p b e j) (⊎_elim new old (cases_eq i p))
    where
      inside : origin p b j < length xs
      inside = grind (arith, nat_tests)

      new : i ≡ p → before (summary_at xs (origin p b i)) (summary_at xs (origin p b j)) ≡ true
      new q =
          let s : origin p b i ≡ b = grind (arith, nat_tests) in
          let late : before (summary_at xs (origin p b j)) (summary_at xs b) ≡ false = f.2 (origin p b j) (grind (arith, nat_tests)) inside in
          rw s (ahead xs b (origin p b j) apart f.1 inside (grind (arith, nat_tests)) late)

      old : (i ≡ p → ⊥) → before (summary_at xs (origin p b i)) (summary_at xs (origin p b j)) ≡ true
      old q =
          let s : origin p b i ≡ i = grind (arith, nat_tests) in
          rw s (l i (origin p b j) (omega arith) (grind (arith, nat_tests)) inside)

  pub leads_more : (xs ys : List Summary) (p : ℕ) → p < length xs → Brought before xs p ys → Apart xs → Leads before p xs →
      Leads before (p + 1) ys
  leads_more xs ys p lp (b, f, is) = leads_exchanged xs ys p b f (exchanged_at xs ys p b lp f.1 is)
