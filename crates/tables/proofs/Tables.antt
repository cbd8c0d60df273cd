-- Each region has a table of its own.
use Rattle.std.proofs.Common.{◌≡◌, ℕ, zero, suc, ◌<◌, ◌≤◌, Bool, false, ◌&&◌, ltb, List, [], ◌∷◌, length, get_or, replicate, Some, refl, ap, inl, inr, arith}
use Rattle.std.proofs.Math.ListN.{set}
use mathlib.Core.Path.{fun_ext}
use Rattle.std.specs.List.{slice_get}
use Rattle.std.proofs.lemmas.Bool.Decides.{nat_tests}
use Rattle.std.proofs.lemmas.Bool.{cases_eq, cases_lt}
use Rattle.std.proofs.lemmas.Option.{slice_get-get_or}
use Rattle.bitset.specs.declared.bits.BitSet.{BitSet}
use Rattle.bitset.specs.Members.{members}
use Rattle.bitset.specs.Set.{empty, joined}
use Rattle.tables.specs.Cards.{clean_cards, entered, in_table, table_in}

-- at first each table is empty
pub no_tables : (g d : ℕ) → clean_cards.table g d ≡ false
no_tables g d = refl

pub tables_of_none : (t : BitSet 8) → members t ≡ empty → (n : ℕ) → table_in (replicate n t) ≡ (λ g. empty)
tables_of_none t e n = fun_ext (λ g. fun_ext (λ d. each n g d))
  where
    each : (n g d : ℕ) → table_in (replicate n t) g d ≡ false
    each zero g d = refl
    each (suc n) zero d = ap (λ (f : ℕ → Bool). f d) e
    each (suc n) (suc g) d = each n g d

slice_get-set_same : {X : Type 0} (xs : List X) (i : ℕ) (x : X) → i < length xs → slice_get (set xs i x) i ≡ Some x
slice_get-set_same [] i x l = absurd (omega arith)
slice_get-set_same (y ∷ xs) zero x l = refl
slice_get-set_same (y ∷ xs) (suc i) x l = slice_get-set_same xs i x (omega arith)

slice_get-set_other : {X : Type 0} (xs : List X) (i j : ℕ) (x : X) → (j ≡ i → ⊥) → slice_get (set xs i x) j ≡ slice_get xs j
slice_get-set_other [] i j x n = refl
slice_get-set_other (y ∷ xs) zero zero x n = absurd (n refl)
slice_get-set_other (y ∷ xs) zero (suc j) x n = refl
slice_get-set_other (y ∷ xs) (suc i) zero x n = refl
slice_get-set_other (y ∷ xs) (suc i) (suc j) x n = slice_get-set_other xs i j x (λ e. n (ap suc e))

-- a card that is put into a region's table is entered there, and in no other
pub table_joined : (ts : List (BitSet 8)) (g d : ℕ) (t x : BitSet 8) → length ts ≡ 32 → g < 32
    → members t ≡ joined 512 (members (get_or ts g x)) d → (512 ≤ d → members t ≡ members (get_or ts g x)) → table_in (set ts g t) ≡ entered (table_in ts) g d
unfolding joined entered
table_joined ts g d t x len l j p = fun_ext (λ h. fun_ext (λ k. elim (cases_eq h g) [ inl u ↦ here h k u | inr u ↦ other h k u ]))
  where
    here : (h k : ℕ) → h ≡ g → table_in (set ts g t) h k ≡ entered (table_in ts) g d h k
    here h k u =
        let a : slice_get (set ts g t) h ≡ Some t = rw u (slice_get-set_same ts g t (omega arith)) in
        let old : BitSet 8 = get_or ts g x in
        let b : slice_get ts h ≡ Some old = rw u (slice_get-get_or ts g x (omega arith)) in
        let e : in_table (slice_get (set ts g t) h) k ≡ members t k = ap (λ o. in_table o k) a in
        let f : in_table (slice_get ts h) k ≡ members old k = ap (λ o. in_table o k) b in
        let m : members t k ≡ joined 512 (members old) d k = ap (λ (f : ℕ → Bool). f k) j in
        let n : 512 ≤ d → members t k ≡ members old k = λ q. ap (λ (f : ℕ → Bool). f k) (p q) in
        elim (cases_lt d 512) [ inl v ↦ grind (arith, nat_tests) | inr v ↦ (let w = n v in grind (arith, nat_tests)) ]

    other : (h k : ℕ) → (h ≡ g → ⊥) → table_in (set ts g t) h k ≡ entered (table_in ts) g d h k
    other h k u =
        let e : in_table (slice_get (set ts g t) h) k ≡ in_table (slice_get ts h) k = ap (λ o. in_table o k) (slice_get-set_other ts g h t u) in
        grind (arith, nat_tests)

-- a card or a region that there is none of is entered nowhere
pub not_entered : (t : ℕ → ℕ → Bool) (g d : ℕ) → (ltb g 32 && ltb d 512) ≡ false → t ≡ entered t g d
unfolding entered
not_entered t g d e = fun_ext (λ h. fun_ext (λ k. grind (arith, nat_tests)))

-- a region that there is none of has no table, and entering a card there alters nothing
pub no_region : (t : ℕ → ℕ → Bool) (g d : ℕ) → 32 ≤ g → t ≡ entered t g d
no_region t g d l = not_entered t g d (grind (arith, nat_tests))
