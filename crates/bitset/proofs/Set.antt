-- Laws of sets of numbers, whatever holds them. An equation of sets holds since both sides answer alike at each number, and
-- a law of `tally` by induction on how many numbers it looks at.
use Rattle.std.proofs.Common.{◌≡◌, ℕ, zero, suc, ◌+◌, ◌-◌, ◌<◌, ◌≤◌, Bool, true, false, cond, ◌&&◌, ltb, leb, Some, None, Option, sym, refl, ap, ◌∙◌, ap₂, ⊎_elim, zero-le, arith}
use mathlib.Core.Path.{fun_ext}
use Rattle.std.proofs.lemmas.Bool.Decides.{nat_tests}
use Rattle.std.proofs.lemmas.Bool.{cases_lt, cases_eq, cases_order, cond-true, cond-false, eq-eqb, ne_eqb, false≢true}
use Rattle.bitset.specs.Set.{empty, put, joined, cut, one, tally, Bounded, First, first_of}

-- ---- put

pub put_same : (f : ℕ → Bool) (i : ℕ) (v : Bool) → put f i v i ≡ v
put_same f i v = grind (arith, nat_tests)

pub put_other : (f : ℕ → Bool) (i : ℕ) (v : Bool) (k : ℕ) → (k ≡ i → ⊥) → put f i v k ≡ f k
put_other f i v k ne = ap (λ b. cond b v (f k)) (ne_eqb k i ne)

pub put_again : (f : ℕ → Bool) (i : ℕ) (v w : Bool) → put (put f i v) i w ≡ put f i w
put_again f i v w = fun_ext (λ k. grind (arith, nat_tests))

-- what is so already is left as it is
pub put_is : (f : ℕ → Bool) (i : ℕ) (v : Bool) → f i ≡ v → f ≡ put f i v
put_is f i v e = fun_ext (λ k. ⊎_elim (λ q. ap f q ∙ e ∙ sym (ap (λ b. cond b v (f k)) (eq-eqb k i q))) (λ ne. sym (put_other f i v k ne)) (cases_eq k i))

-- joining is putting in, below the bound
pub put-joined : (n : ℕ) (f : ℕ → Bool) (i : ℕ) → put f i (ltb i n) ≡ joined n f i
unfolding joined
put-joined n f i = refl

-- ---- cut

pub cut-none : (f : ℕ → Bool) (a b : ℕ) → b ≤ a → f ≡ cut f a b
cut-none f a b h = fun_ext (λ k. grind (arith, nat_tests))

pub cut_more : (f : ℕ → Bool) (a i : ℕ) → a ≤ i → put (cut f a i) i false ≡ cut f a (i + 1)
cut_more f a i h = fun_ext (λ k. grind (arith, nat_tests))

-- two ranges, one after the other
pub cut-cut : (f : ℕ → Bool) (a i j : ℕ) → a ≤ i → i ≤ j → cut (cut f a i) i j ≡ cut f a j
cut-cut f a i j h l = fun_ext (λ k. grind (arith, nat_tests))

pub cut_then : (f g h : ℕ → Bool) (a i j : ℕ) → g ≡ cut f a i → h ≡ cut g i j → a ≤ i → i ≤ j → h ≡ cut f a j
cut_then f g h a i j p q l m = q ∙ ap (λ s. cut s i j) p ∙ cut-cut f a i j l m

-- all up to the bound
pub cut_all : (f : ℕ → Bool) (n : ℕ) → Bounded n f → cut f 0 n ≡ empty
cut_all f n h = fun_ext (λ k. ⊎_elim (λ l. grind (arith, nat_tests)) (λ l. let e = h k l in grind (arith, nat_tests)) (cases_lt k n))

-- past the bound there is nothing to take out
pub cut-past : (f : ℕ → Bool) (a n b : ℕ) → Bounded n f → n ≤ b → cut f a n ≡ cut f a b
cut-past f a n b h l = fun_ext (λ k. ⊎_elim (λ m. grind (arith, nat_tests)) (λ m. let e = h k m in grind (arith, nat_tests)) (cases_lt k n))

-- ---- tally

pub one_le : (b : Bool) → one b ≤ 1
one_le true = omega arith
one_le false = omega arith

pub tally_le : (f : ℕ → Bool) (a n : ℕ) → tally f a n ≤ n
unfolding tally
tally_le f a zero = zero-le
tally_le f a (suc n) = omega (arith, tally_le f a n, one_le (f (a + n)))

-- a range with nothing in it: the start of a loop
pub tally-none : (f : ℕ → Bool) (a b : ℕ) → b ≤ a → 0 ≡ tally f a (b - a)
unfolding tally
tally-none f a b h = let e : b - a ≡ 0 = omega arith in sym (ap (tally f a) e)

-- one number more: the step of a loop
pub tally_more : (f : ℕ → Bool) (a i : ℕ) → a ≤ i → tally f a (i + 1 - a) ≡ tally f a (i - a) + one (f i)
unfolding tally
tally_more f a i h =
    let e : i + 1 - a ≡ suc (i - a) = omega arith in
    let p : a + (i - a) ≡ i = omega arith in
    ap (tally f a) e ∙ ap (λ k. tally f a (i - a) + one (f k)) p

pub tally_yes : (f : ℕ → Bool) (a i : ℕ) → a ≤ i → f i ≡ true → tally f a (i + 1 - a) ≡ tally f a (i - a) + 1
tally_yes f a i h e = tally_more f a i h ∙ ap (λ b. tally f a (i - a) + one b) e

pub tally_no : (f : ℕ → Bool) (a i : ℕ) → a ≤ i → f i ≡ false → tally f a (i + 1 - a) ≡ tally f a (i - a)
tally_no f a i h e = let z : tally f a (i + 1 - a) ≡ tally f a (i - a) + 0 = tally_more f a i h ∙ ap (λ b. tally f a (i - a) + one b) e in omega arith

-- the first number apart
pub tally_front : (f : ℕ → Bool) (a n : ℕ) → tally f a (suc n) ≡ one (f a) + tally f (suc a) n
unfolding tally
tally_front f a zero = let e : a + 0 ≡ a = omega arith in rw e (omega arith)
tally_front f a (suc n) =
    let e : a + suc n ≡ suc a + n = omega arith in
    let t : one (f (a + suc n)) ≡ one (f (suc a + n)) = ap (λ k. one (f k)) e in
    omega (arith, tally_front f a n)

-- sets that agree on the ranges have the same tally
pub tally_ext : (f g : ℕ → Bool) (a b n : ℕ) → ((k : ℕ) → k < n → f (a + k) ≡ g (b + k)) → tally f a n ≡ tally g b n
unfolding tally
tally_ext f g a b zero h = refl
tally_ext f g a b (suc n) h =
    ap₂ (λ m t. m + one t) (tally_ext f g a b n (λ k l. h k (omega arith))) (h n (omega arith))

pub tally_split : (f : ℕ → Bool) (a m n : ℕ) → tally f a (m + n) ≡ tally f a m + tally f (a + m) n
unfolding tally
tally_split f a m zero = let e : m + 0 ≡ m = omega arith in rw e (omega arith)
tally_split f a m (suc n) =
    let e : m + suc n ≡ suc (m + n) = omega arith in
    let z : a + (m + n) ≡ a + m + n = omega arith in
    let t : one (f (a + (m + n))) ≡ one (f (a + m + n)) = ap (λ k. one (f k)) z in
    rw e (omega (arith, tally_split f a m n))

-- two ranges, one after the other
pub tally_join : (f : ℕ → Bool) (a i b : ℕ) → a ≤ i → i ≤ b → tally f a (b - a) ≡ tally f a (i - a) + tally f i (b - i)
tally_join f a i b h l =
    let e : b - a ≡ (i - a) + (b - i) = omega arith in
    let z : a + (i - a) ≡ i = omega arith in
    ap (tally f a) e ∙ tally_split f a (i - a) (b - i) ∙ ap (λ k. tally f a (i - a) + tally f k (b - i)) z

-- a range without members
pub tally-gap : (f : ℕ → Bool) (a n : ℕ) → ((k : ℕ) → a ≤ k → k < a + n → f k ≡ false) → tally f a n ≡ 0
unfolding tally
tally-gap f a zero h = refl
tally-gap f a (suc n) h =
    let b : one (f (a + n)) ≡ 0 = ap one (h (a + n) (omega arith) (omega arith)) in
    omega (arith, tally-gap f a n (λ k p q. h k p (omega arith)))

-- past the bound there is nothing to count
pub tally-past : (f : ℕ → Bool) (a n b : ℕ) → Bounded n f → a ≤ n → n ≤ b → tally f a (n - a) ≡ tally f a (b - a)
tally-past f a n b h p q = omega (arith, tally_join f a n b p q, tally-gap f n (b - n) (λ k l m. h k l))

-- the members of a .. b, counted in a range around it
pub tally_range : (f : ℕ → Bool) (a b m n : ℕ) → m ≤ a → a ≤ b → b ≤ m + n → tally (λ k. leb a k && (ltb k b && f k)) m n ≡ tally f a (b - a)
tally_range f a b m n p q r =
    let g : ℕ → Bool = λ k. leb a k && (ltb k b && f k) in
    let e : m + n - m ≡ n = omega arith in
    let low : tally g m (a - m) ≡ 0 = tally-gap g m (a - m) (λ k u v. grind (arith, nat_tests)) in
    let high : tally g b (m + n - b) ≡ 0 = tally-gap g b (m + n - b) (λ k u v. grind (arith, nat_tests)) in
    let mid : tally g a (b - a) ≡ tally f a (b - a) = tally_ext g f a a (b - a) (λ k l. grind (arith, nat_tests)) in
    let all : tally g m n ≡ tally g m (m + n - m) = ap (tally g m) (sym e) in
    omega (arith, tally_join g m a (m + n) p (omega arith), tally_join g a b (m + n) q r)

-- one number becomes a member or none
pub tally-put : (f : ℕ → Bool) (i : ℕ) (v : Bool) (a n : ℕ) → a ≤ i → i < a + n → tally (put f i v) a n + one (f i) ≡ tally f a n + one v
unfolding tally
tally-put f i v a zero h l = absurd (omega arith)
tally-put f i v a (suc n) h l = ⊎_elim last (λ ne. before ne (tally-put f i v a n h (omega arith))) (cases_eq (a + n) i)
  where
    last : a + n ≡ i → tally (put f i v) a (suc n) + one (f i) ≡ tally f a (suc n) + one v
    last e =
        let t : tally (put f i v) a n ≡ tally f a n = tally_ext (put f i v) f a a n (λ k m. put_other f i v (a + k) (λ q. omega arith)) in
        let p : one (put f i v (a + n)) ≡ one v = ap (λ b. one (cond b v (f (a + n)))) (eq-eqb (a + n) i e) in
        let q : one (f (a + n)) ≡ one (f i) = ap (λ k. one (f k)) e in
        omega arith

    before : (a + n ≡ i → ⊥) → tally (put f i v) a n + one (f i) ≡ tally f a n + one v → tally (put f i v) a (suc n) + one (f i) ≡ tally f a (suc n) + one v
    before ne ih =
        let p : one (put f i v (a + n)) ≡ one (f (a + n)) = ap one (put_other f i v (a + n) ne) in
        omega arith

-- a new member is one more
pub tally_in : (f g : ℕ → Bool) (i a n : ℕ) → f i ≡ false → g ≡ put f i true → a ≤ i → i < a + n → tally g a n ≡ tally f a n + 1
tally_in f g i a n z e h l =
    let p : tally g a n ≡ tally (put f i true) a n = ap (λ m. tally m a n) e in
    let b : one (f i) ≡ 0 = ap one z in
    omega (arith, tally-put f i true a n h l)

-- a member that is taken out is one fewer
pub tally_out : (f g : ℕ → Bool) (i a n : ℕ) → f i ≡ true → g ≡ put f i false → a ≤ i → i < a + n → tally g a n + 1 ≡ tally f a n
tally_out f g i a n y e h l =
    let p : tally g a n ≡ tally (put f i false) a n = ap (λ m. tally m a n) e in
    let b : one (f i) ≡ 1 = ap one y in
    omega (arith, tally-put f i false a n h l)

-- ---- First

-- a member is below the bound
pub member_below : (f : ℕ → Bool) (n i : ℕ) → Bounded n f → f i ≡ true → i < n
member_below f n i h y = ⊎_elim (λ l. l) (λ l. let e = h i l in absurd (grind arith)) (cases_lt i n)

-- there is one answer
pub first-only : (f : ℕ → Bool) (from : ℕ) (r s : Option ℕ) → First f from r → First f from s → r ≡ s
first-only f from None None p q = refl
first-only f from None (Some j) p q = let e = p j q.0 in let y = q.1 in absurd (grind arith)
first-only f from (Some i) None p q = let e = q i p.0 in let y = p.1 in absurd (grind arith)
first-only f from (Some i) (Some j) p q = ap Some (⊎_elim same (⊎_elim left right) (cases_order i j))
  where
    same : i ≡ j → i ≡ j
    same e = e

    left : i < j → i ≡ j
    left l = let e = q.2 i p.0 l in let y = p.1 in absurd (grind arith)

    right : j < i → i ≡ j
    right l = let e = p.2 j q.0 l in let y = q.1 in absurd (grind arith)

-- ---- the lowest member, as a function

pub first-none : (f : ℕ → Bool) (a n : ℕ) → ((k : ℕ) → a ≤ k → f k ≡ false) → None ≡ first_of f a n
unfolding first_of
first-none f a zero h = refl
first-none f a (suc n) h = first-none f (suc a) n (λ k l. h k (omega arith)) ∙ sym (cond-false (f a) _ _ (h a (omega arith)))

pub first_some : (f : ℕ → Bool) (a n i : ℕ) → a ≤ i → i < a + n → f i ≡ true → ((k : ℕ) → a ≤ k → k < i → f k ≡ false) → Some i ≡ first_of f a n
unfolding first_of
first_some f a zero i h l e b = absurd (omega arith)
first_some f a (suc n) i h l e b = ⊎_elim
    (λ z. ap Some (sym z) ∙ sym (cond-true (f a) _ _ (ap f z ∙ e)))
    (λ z. first_some f (suc a) n i (omega arith) (omega arith) e (λ k p q. b k (omega arith) q) ∙ sym (cond-false (f a) _ _ (b a (omega arith) (omega arith))))
    (cases_eq a i)

-- what `First` tells of the lowest member is that it is this one
pub first_is : (f : ℕ → Bool) (n : ℕ) (r : Option ℕ) → Bounded n f → First f 0 r → r ≡ first_of f 0 n
first_is f n None bound h = first-none f 0 n h
first_is f n (Some i) bound h = ⊎_elim
    (λ l. first_some f 0 n i h.0 (omega arith) h.1 h.2)
    (λ l. absurd (false≢true (sym (bound i l) ∙ h.1)))
    (cases_lt i n)

-- and what that one tells: it is a member, and none is below it
pub first_of_some : (f : ℕ → Bool) (a n i : ℕ) → first_of f a n ≡ Some i → (a ≤ i) × (i < a + n) × (f i ≡ true) × ((k : ℕ) → a ≤ k → k < i → f k ≡ false)
unfolding first_of
first_of_some f a zero i e = let z : ◌≡◌ {A = ℕ} 0 1 = cc in absurd (omega arith)
first_of_some f a (suc n) i e = go (f a) refl e (first_of_some f (suc a) n i)
  where
    go : (b : Bool) → f a ≡ b → cond b (Some a) (first_of f (suc a) n) ≡ Some i
        → (first_of f (suc a) n ≡ Some i → (suc a ≤ i) × (i < suc a + n) × (f i ≡ true) × ((k : ℕ) → suc a ≤ k → k < i → f k ≡ false))
        → (a ≤ i) × (i < a + suc n) × (f i ≡ true) × ((k : ℕ) → a ≤ k → k < i → f k ≡ false)
    go true h d r = let z : a ≡ i = cc in (omega arith, omega arith, ap f (sym z) ∙ h, λ k p q. absurd (omega arith))
    go false h d r =
        let w = r d in
        (omega (arith, w.0), omega (arith, w.1), w.2, λ k p q. ⊎_elim (λ z. ap f z ∙ h) (λ z. w.3 k (omega arith) q) (cases_eq k a))

pub first_of_none : (f : ℕ → Bool) (a n k : ℕ) → first_of f a n ≡ None → a ≤ k → k < a + n → f k ≡ false
unfolding first_of
first_of_none f a zero k e l m = absurd (omega arith)
first_of_none f a (suc n) k e l m = go (f a) refl e (first_of_none f (suc a) n k)
  where
    go : (b : Bool) → f a ≡ b → cond b (Some a) (first_of f (suc a) n) ≡ None → (first_of f (suc a) n ≡ None → suc a ≤ k → k < suc a + n → f k ≡ false) → f k ≡ false
    go true h d r = let z : ◌≡◌ {A = ℕ} 0 1 = cc in absurd (omega arith)
    go false h d r = ⊎_elim (λ z. ap f z ∙ h) (λ z. r d (omega arith) (omega arith)) (cases_eq k a)
