-- The weight of a region is the words of its members, for a set of objects, as those that are marked and not pending. When an
-- object becomes a member the weight of its region grows by its words, and no other changes. A weight is at most 1,024 times
-- 1,024, so there is room for the sum.
use Rattle.std.proofs.Common.{◌≡◌, ℕ, ◌+◌, ◌-◌, ◌*◌, ◌/◌, ◌^◌, ◌≤◌, min, Bool, true, false, not, List, length, get_or, sym, refl, ap, ◌∙◌, inl, inr, arith}
use Rattle.bitset.specs.Set.{put}
use Rattle.layout.specs.Shape.{Shape}
use Rattle.memory.specs.State.{State}
use Rattle.std.proofs.lemmas.List.{get_or-set_same, get_or-set_other}
use Rattle.std.proofs.lemmas.Bool.{cases_eq, cases_lt, and_parts}
use Rattle.tables.specs.Marks.{heavier}
use Rattle.heap.specs.Tiles.{total, held_by}
use Rattle.heap.specs.Sound.{Sound, size_at, scanned}
use Rattle.heap.proofs.Geometry.{few_words, in_store, few_regions}
use Rattle.heap.proofs.Totals.{held-most, held_one_more, held_elsewhere}

-- the words of the members of region g
abbrev pub weight_of : Shape → State → (ℕ → Bool) → ℕ → ℕ
weight_of S s f g = total (held_by f (size_at S s)) (1024 * g) 1024

-- p becomes a member
module _ (S : Shape) (s : State) (f : ℕ → Bool) (p : ℕ) where
  pub weight_here : f p ≡ false → (g : ℕ) → g ≡ p / 1024 → weight_of S s (put f p true) g ≡ weight_of S s f g + size_at S s p
  weight_here not_yet g z = held_one_more f (size_at S s) p (1024 * g) 1024 not_yet (omega arith) (omega arith)

  pub weight_there : (g : ℕ) → (g ≡ p / 1024 → ⊥) → weight_of S s (put f p true) g ≡ weight_of S s f g
  weight_there g ne = held_elsewhere f (size_at S s) p (1024 * g) 1024 (elim (cases_lt g (p / 1024)) [ inl a ↦ inr (omega arith) | inr a ↦ inl (omega arith) ])

module _ {S : Shape} {s : State} (d : Sound S s) where
  -- what is marked and not pending is an object
  pub scanned-starts : (p : ℕ) → scanned s p ≡ true → s.starts p ≡ true
  scanned-starts p e = d.marked p (and_parts (s.marks.marked p) (not (s.marks.pending p)) e).0

  -- members that are objects
  module _ (f : ℕ → Bool) (objects : (k : ℕ) → f k ≡ true → s.starts k ≡ true) where
    pub weight_most : (g : ℕ) → weight_of S s f g ≤ 1048576
    weight_most g = omega (arith, held-most f (size_at S s) (1024 * g) 1024 (λ k y. few_words d k (objects k y)))

    -- the object at p becomes a member, and its words are added to the weight of its region
    pub heavier_weighs : (p : ℕ) → s.starts p ≡ true → f p ≡ false → (ws : List ℕ) → length ws ≡ 32 → ((g : ℕ) → get_or ws g 0 ≡ weight_of S s f g)
        → (g : ℕ) → get_or (heavier ws (p / 1024) (size_at S s p)) g 0 ≡ weight_of S s (put f p true) g
    heavier_weighs p is not_yet ws many each g = elim (cases_eq g (p / 1024)) [
      | inl z ↦
          let sum : ℕ = min (get_or ws (p / 1024) 0 + size_at S s p) (2 ^ 32 - 1) in
          let there : get_or (heavier ws (p / 1024) (size_at S s p)) (p / 1024) 0 ≡ sum = get_or-set_same ws (p / 1024) sum 0 (omega (arith, in_store d p is, few_regions d)) in
          let fits : sum ≡ weight_of S s (put f p true) (p / 1024) = omega (arith, each (p / 1024), weight_most (p / 1024), few_words d p is, weight_here S s f p not_yet (p / 1024) refl) in
          ap (λ k. get_or (heavier ws (p / 1024) (size_at S s p)) k 0) z ∙ there ∙ fits ∙ ap (weight_of S s (put f p true)) (sym z)
      | inr z ↦ get_or-set_other ws (p / 1024) g _ 0 z ∙ each g ∙ sym (weight_there S s f p g z)
    ]
