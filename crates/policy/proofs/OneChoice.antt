-- Two lists of the same summaries, of different regions, with the first c in front begin alike. Place by place: where those
-- ahead are the same, the summary that one list has at the place stands there or later in the other, so it would come both
-- before and after the summary that the other has there, unless they are one.
use Rattle.std.proofs.Common.{◌≡◌, ℕ, zero, suc, ◌<◌, ◌≤◌, min, Bool, true, ◌⊎◌, List, length, take, sym, ap, ◌∙◌, subst, inl, inr, ⊎_elim, arith, length-take, below_more}
use Rattle.std.proofs.ByRecursion.{has_get_or, has_shuffled}
use Rattle.std.proofs.lemmas.List.{ext_get_or, get_or-take}
use Rattle.std.proofs.lemmas.List.Sorted.{length_permutation, IsPermutation-sym, IsPermutation-trans}
use Rattle.std.proofs.lemmas.Bool.{cases_order}
use Rattle.std.specs.List.Sorted.{IsPermutation}
use Rattle.policy.specs.declared.Summary.{Summary}
use Rattle.policy.specs.Order.{Ordered}
use Rattle.policy.specs.Choice.{blank, summary_at, Apart, Leads, OneChoice}
use Rattle.policy.proofs.Choosing.{apart_shuffled, one_way}

module _ (before : Summary → Summary → Bool) (o : Ordered before) where
  -- what zs has at n stands at n in ys too, or ys has there what comes before it
  met : (ys zs : List Summary) (c n : ℕ) → IsPermutation zs ys → Apart zs → Leads before c ys → n < c → n < length zs →
      ((k : ℕ) → k < n → summary_at ys k ≡ summary_at zs k) → (summary_at ys n ≡ summary_at zs n) ⊎ (before (summary_at ys n) (summary_at zs n) ≡ true)
  met ys zs c n sh apart l nc nl same =
      let found = has_shuffled zs ys (summary_at zs n) sh (has_get_or zs n blank nl) in
      let k = found.0 in
      let is : summary_at ys k ≡ summary_at zs n = found.2 blank in
      let region : Summary → ℕ = λ s. s.region in
      ⊎_elim (λ e. inl (ap (summary_at ys) (sym e) ∙ is))
      (⊎_elim
      (λ lt.
      let e : k ≡ n = apart k n (omega arith) nl (ap region (sym (same k lt) ∙ is)) in
      absurd (omega arith))
      (λ gt. inr (subst (λ s. before (summary_at ys n) s ≡ true) is (l n k nc gt found.1))))
      (cases_order k n)

  -- where both lists have the same summaries below n, they have the same one at n
  next : (ys zs : List Summary) (c n : ℕ) → IsPermutation ys zs → Apart ys → Apart zs → Leads before c ys → Leads before c zs →
      n < c → n < length ys → ((k : ℕ) → k < n → summary_at ys k ≡ summary_at zs k) → summary_at ys n ≡ summary_at zs n
  next ys zs c n sh ay az ly lz nc nl same =
      let nz : n < length zs = omega (arith, length_permutation ys zs sh) in
      ⊎_elim (λ e. e)
      (λ p. ⊎_elim sym (λ q. absurd (one_way before o (summary_at ys n) (summary_at zs n) p q))
      (met zs ys c n sh ay lz nc nl (λ k h. sym (same k h))))
      (met ys zs c n (IsPermutation-sym ys zs sh) az ly nc nz same)

  alike : (ys zs : List Summary) (c : ℕ) → IsPermutation ys zs → Apart ys → Apart zs → Leads before c ys → Leads before c zs →
      (n : ℕ) → n ≤ c → n ≤ length ys → (k : ℕ) → k < n → summary_at ys k ≡ summary_at zs k
  alike ys zs c sh ay az ly lz zero nc nl k lt = absurd (omega arith)
  alike ys zs c sh ay az ly lz (suc n) nc nl k lt =
      let same = alike ys zs c sh ay az ly lz n (omega arith) (omega arith) in
      let here = next ys zs c n sh ay az ly lz (omega arith) (omega arith) same in
      below_more (λ i. summary_at ys i ≡ summary_at zs i) n same here k (omega arith)

  pub one_choice : OneChoice before
  one_choice xs ys zs c apart sy sz ly lz =
      let sh : IsPermutation ys zs = IsPermutation-trans ys xs zs (IsPermutation-sym xs ys sy) sz in
      let len : length (take c ys) ≡ length (take c zs) =
      length-take c ys ∙ ap (min c) (sym (length_permutation ys zs sh)) ∙ sym (length-take c zs) in
      ext_get_or blank (take c ys) (take c zs) len
      (λ i h.
      let ic : i < c = omega (arith, length-take c ys) in
      let il : i < length ys = omega (arith, length-take c ys) in
      get_or-take c ys i blank ic
      ∙ alike ys zs c sh (apart_shuffled xs ys sy apart) (apart_shuffled xs zs sz apart) ly lz (suc i) (omega arith) (omega arith) i (omega arith)
      ∙ sym (get_or-take c zs i blank ic))
