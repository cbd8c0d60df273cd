-- Looking for a number in a range, and counting there, in the words of sets of numbers.
use Rattle.std.proofs.Common.{◌≡◌, ℕ, zero, suc, ◌+◌, ◌-◌, ◌<◌, ◌≤◌, Bool, true, false, cond, Some, None, Option, MatchOption, refl, sym, ap, ◌∙◌, add-one, arith}
use Rattle.std.specs.List.{count_by, range_with_len}
use Rattle.std.proofs.lemmas.Bool.{cond-false}
use Rattle.std.proofs.lemmas.List.Sums.{sum_by-cons}
use Rattle.bitset.specs.Set.{first_of, one, tally}
use Rattle.bitset.proofs.Set.{first_some, tally_front}

none_between : (f : ℕ → Bool) (a n : ℕ) → ((k : ℕ) → a ≤ k → k < a + n → f k ≡ false) → None ≡ first_of f a n
unfolding first_of
none_between f a zero h = refl
none_between f a (suc n) h =
    none_between f (suc a) n (λ k l m. h k (omega arith) (omega arith)) ∙ sym (cond-false (f a) _ _ (h a (omega arith) (omega arith)))

-- what `find` gives over a range is the first member there
pub first_between : (f : ℕ → Bool) (a b : ℕ) (r : Option ℕ)
    → MatchOption r ((k : ℕ) → a ≤ k → k < b → f k ≡ false) (λ i. (a ≤ i) × (i < b) × (f i ≡ true) × ((k : ℕ) → a ≤ k → k < i → f k ≡ false))
    → r ≡ first_of f a (b - a)
first_between f a b None h = none_between f a (b - a) (λ k l m. h k l (omega arith))
first_between f a b (Some i) h = first_some f a (b - a) i h.0 (let l = h.0 in let m = h.1 in omega arith) h.2 h.3

one-cond : (b : Bool) → cond b 1 0 ≡ one b
one-cond true = refl
one-cond false = refl

-- how many numbers of a range pass is their tally
pub count-range : (f : ℕ → Bool) (a n : ℕ) → count_by f (range_with_len a n) ≡ tally f a n
unfolding tally
count-range f a zero = refl
count-range f a (suc n) =
    let e : count_by f (range_with_len a (suc n)) ≡ cond (f a) 1 0 + count_by f (range_with_len (a + 1) n) = sum_by-cons (λ k. cond (f k) 1 0) a (range_with_len (a + 1) n) in
    let h : count_by f (range_with_len (a + 1) n) ≡ tally f (suc a) n = count-range f (a + 1) n ∙ ap (λ k. tally f k n) (add-one a) in
    omega (arith, e, h, one-cond (f a), tally_front f a n)
