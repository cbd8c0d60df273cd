-- The region that opens next is free and one of the store's, since the search passes over what is not free and stays below the
-- number of regions; where it finds none, none is free. When a region opens, one fewer is free.
use Rattle.std.proofs.Common.{◌≡◌, ℕ, zero, suc, ◌+◌, ◌-◌, ◌<◌, ◌≤◌, true, false, List, length, get_or, set, replicate, Some, None, Option, sym, refl, ap, ◌∙◌, subst, inl, inr, arith}
use mathlib.Core.Path.{fun_ext}
use Rattle.std.proofs.lemmas.List.{get_or-set_same, get_or-set_other}
use Rattle.std.proofs.lemmas.Option.{none-some}
use Rattle.std.proofs.lemmas.Bool.{cases_eq, cases_lt, eq-eqb, ne_eqb, cond-true, cond-false}
use Rattle.bitset.specs.Set.{one, put, tally}
use Rattle.bitset.proofs.Set.{first_of_some, first_of_none, tally_front, tally-gap, tally_le, tally_out}
use Rattle.tables.specs.declared.region.Region.{Region}
use Rattle.tables.specs.declared.regions.Regions.{Regions}
use Rattle.tables.specs.Regions.{blank, region_at, is_free_at, free_count, first_free, or_else, next_free}

-- where all elements are one, that one is read at every index, if it is the default too
pub same_everywhere : {A : Type 0} (n i : ℕ) (a : A) → get_or (replicate n a) i a ≡ a
same_everywhere zero i a = refl
same_everywhere (suc n) zero a = refl
same_everywhere (suc n) (suc i) a = same_everywhere n i a

-- one entry is replaced: what is true of each entry then
pub at_set : (P : Region → Type 0) (gs : List Region) (i : ℕ) (e : Region) (k : ℕ) → i < length gs → (k ≡ i → P e)
    → ((k ≡ i → ⊥) → P (region_at gs k)) → P (region_at (set gs i e) k)
at_set P gs i e k l here there = elim (cases_eq k i) [
  | inl z ↦ subst P (sym (ap (region_at (set gs i e)) z ∙ get_or-set_same gs i e blank l)) (here z)
  | inr z ↦ subst P (sym (get_or-set_other gs i k e blank z)) (there z)
]

-- ---- the search

pub next_is_free : (r : Regions) (g : ℕ) → r.last < r.count → next_free r ≡ Some g → (g < r.count) × (is_free_at r.entries g ≡ true)
next_is_free r g l = go (first_free r.entries r.last (r.count - r.last)) refl
  where
    go : (x : Option ℕ) → first_free r.entries r.last (r.count - r.last) ≡ x
        → or_else x (first_free r.entries 0 (r.last - 0)) ≡ Some g → (g < r.count) × (is_free_at r.entries g ≡ true)
    go (Some k) e d =
        let z : k ≡ g = cc in
        let f = first_of_some (is_free_at r.entries) r.last (r.count - r.last) g (e ∙ ap Some z) in
        (omega arith, f.2)
    go None e d = let f = first_of_some (is_free_at r.entries) 0 (r.last - 0) g d in (omega arith, f.2)

-- where none is found, none is free
pub next_misses : (r : Regions) (k : ℕ) → next_free r ≡ None → k < r.count → is_free_at r.entries k ≡ false
next_misses r k e l = go (first_free r.entries r.last (r.count - r.last)) refl e
  where
    go : (x : Option ℕ) → first_free r.entries r.last (r.count - r.last) ≡ x
        → or_else x (first_free r.entries 0 (r.last - 0)) ≡ None → is_free_at r.entries k ≡ false
    go (Some g) y d = absurd (none-some g (sym d))
    go None y d = elim (cases_lt k r.last) [
      | inl a ↦ first_of_none (is_free_at r.entries) 0 (r.last - 0) k d (omega arith) (omega arith)
      | inr a ↦ first_of_none (is_free_at r.entries) r.last (r.count - r.last) k y a (omega arith)
    ]

-- ---- the count

-- where two are free, one is found
pub two_are_found : (r : Regions) → 2 ≤ free_count r → next_free r ≡ None → ⊥
two_are_found r two e = omega (arith, tally-gap (is_free_at r.entries) 0 r.count (λ k l m. next_misses r k e (omega arith)))

-- of regions that are all blank each is free
pub blank_are_free : (n : ℕ) → 1 ≤ n → 1 ≤ tally (is_free_at (replicate 32 blank)) 0 n
blank_are_free zero l = absurd (omega arith)
blank_are_free (suc n) l =
    let e : one (is_free_at (replicate 32 blank) 0) ≡ 1 = refl in
    omega (arith, tally_front (is_free_at (replicate 32 blank)) 0 n)

pub free_within : (r : Regions) → free_count r ≤ r.count
free_within r = tally_le (is_free_at r.entries) 0 r.count

-- the same are free
pub as_many_free : (r t : Regions) → t.count ≡ r.count → ((k : ℕ) → is_free_at t.entries k ≡ is_free_at r.entries k) → free_count t ≡ free_count r
as_many_free r t e same = ap (tally (is_free_at t.entries) 0) e ∙ ap (λ f. tally f 0 r.count) (fun_ext same)

-- one is no more free
pub one_fewer_free : (r t : Regions) (g : ℕ) → t.count ≡ r.count → g < r.count → is_free_at r.entries g ≡ true → is_free_at t.entries g ≡ false
    → ((k : ℕ) → (k ≡ g → ⊥) → is_free_at t.entries k ≡ is_free_at r.entries k) → free_count t + 1 ≡ free_count r
one_fewer_free r t g e l y n others =
    let same : is_free_at t.entries ≡ put (is_free_at r.entries) g false = fun_ext (λ k. elim (cases_eq k g) [
      | inl z ↦ ap (is_free_at t.entries) z ∙ n ∙ sym (cond-true _ false (is_free_at r.entries k) (eq-eqb k g z))
      | inr z ↦ others k z ∙ sym (cond-false _ false (is_free_at r.entries k) (ne_eqb k g z))
    ]) in
    ap (λ n. tally (is_free_at t.entries) 0 n + 1) e ∙ tally_out (is_free_at r.entries) (is_free_at t.entries) g 0 r.count y same (omega arith) (omega arith)
