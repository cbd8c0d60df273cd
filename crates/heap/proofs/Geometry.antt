-- Where objects of a sound heap lie: inside the fill of their region, one after another, each in a region of the store.
use Rattle.std.proofs.Common.{◌≡◌, ℕ, ◌+◌, ◌*◌, ◌/◌, ◌<◌, ◌≤◌, true, false, length, inl, inr, arith}
use Rattle.layout.specs.Shape.{Shape}
use Rattle.memory.specs.State.{State}
use Rattle.std.proofs.lemmas.Bool.{cases_Bool, cases_lt, false_from_ne_true}
use Rattle.tables.specs.Regions.{is_free_at}
use Rattle.heap.specs.Sound.{Sound, region, size_at}

module _ {S : Shape} {s : State} (h : Sound S s) where
  pub fill_most : (g : ℕ) → (region s g).fill ≤ 1024
  fill_most g = elim (cases_Bool (is_free_at s.regions.entries g)) [
    | inl e ↦ omega (arith, (h.vacant g e).unused)
    | inr e ↦ (h.used g e).2
  ]

  -- an object ends within the fill of its region
  pub ends_in : (p : ℕ) → s.starts p ≡ true → p + size_at S s p ≤ 1024 * (p / 1024) + (region s (p / 1024)).fill
  ends_in p e = (h.tiled (p / 1024)).ends p e (omega arith) (omega arith)

  pub few_words : (p : ℕ) → s.starts p ≡ true → size_at S s p ≤ 1024
  few_words p e = omega (arith, ends_in p e, fill_most (p / 1024))

  pub some_word : (p : ℕ) → s.starts p ≡ true → 1 ≤ size_at S s p
  some_word p e = (h.tiled (p / 1024)).some p e (omega arith) (omega arith)

  -- its region is in use, so it is one of the store's
  pub in_use : (p : ℕ) → s.starts p ≡ true → is_free_at s.regions.entries (p / 1024) ≡ false
  in_use p e = false_from_ne_true _ (λ f. omega (arith, (h.vacant (p / 1024) f).unused, ends_in p e, some_word p e))

  pub in_store : (p : ℕ) → s.starts p ≡ true → p / 1024 < s.regions.count
  in_store p e = (h.used (p / 1024) (in_use p e)).0

  pub few_regions : s.regions.count ≤ 32
  few_regions = omega (arith, h.whole)

  pub long_enough : 1024 * s.regions.count ≤ length s.words
  long_enough = omega (arith, h.whole)

  pub place_below : (p : ℕ) → s.starts p ≡ true → p < 32768
  place_below p e = omega (arith, in_store p e, few_regions)

  -- its words lie in the regions
  pub words_within : (p i : ℕ) → s.starts p ≡ true → i < size_at S s p → p + i < 1024 * s.regions.count
  words_within p i e l = omega (arith, in_store p e, ends_in p e, fill_most (p / 1024))

  -- none starts inside another
  pub not_inside : (p i : ℕ) → s.starts p ≡ true → 1 ≤ i → i < size_at S s p → s.starts (p + i) ≡ false
  not_inside p i e l m = (h.tiled (p / 1024)).gap p (p + i) e (omega arith) (omega arith) (omega arith) (omega arith)

  -- of two objects one ends before the other starts
  pub apart : (p q : ℕ) → s.starts p ≡ true → s.starts q ≡ true → p < q → p + size_at S s p ≤ q
  apart p q e d l = elim (cases_lt q (p + size_at S s p)) [
    | inl m ↦ absurd (let z : s.starts q ≡ false = (h.tiled (p / 1024)).gap p q e (omega arith) (omega arith) l m in grind arith)
    | inr m ↦ m
  ]

  -- so a word of one is no word of the other
  pub no_overlap : (p i q j : ℕ) → s.starts p ≡ true → i < size_at S s p → s.starts q ≡ true → j < size_at S s q
      → p + i ≡ q + j → (p ≡ q) × (i ≡ j)
  no_overlap p i q j e l d m z = elim (cases_lt p q) [
    | inl a ↦ absurd (omega (arith, apart p q e d a))
    | inr a ↦ elim (cases_lt q p) [
      | inl b ↦ absurd (omega (arith, apart q p d e b))
      | inr b ↦ (omega arith, omega arith)
    ]
  ]
