-- A fold over values one after another.
use Rattle.std.proofs.Common.{◌≡◌, ℕ, zero, suc, ◌+◌, ◌-◌, ◌<◌, ◌≤◌, Bool, true, false, cond, List, [], ◌∷◌, length, map, take, drop, get_or, sym, refl, ap, ◌∙◌, arith, add-one, drop-cons}
use Rattle.std.specs.List.{fold, range_with_len}
use Rattle.std.proofs.lemmas.List.Sums.{fold-append}
use Rattle.std.proofs.lemmas.Bool.{cond-true}
use Rattle.image.specs.Content.{Object}
use Rattle.canonical.specs.Walk.{met, all_met}
use Rattle.canonical.proofs.Places.{all_met_begins, longer}
use Rattle.canonical.specs.Saving.{references, renumbered}
use Rattle.saving.specs.Passes.{object_numbers, objects_numbers}

module _ {A B : Type 0} (f : B → ℕ → B) (h : A → ℕ) (xs : List A) (k : ℕ) (d : A) where
  pub fold_more : (b c e : B) → k < length xs → c ≡ f b (h (get_or xs k d)) → fold f b (map h (drop k xs)) ≡ e → fold f c (map h (drop (k + 1) xs)) ≡ e
  fold_more b c e l s i = rw add-one (ap (λ x. fold f x (map h (drop (suc k) xs))) s ∙ rw (drop-cons xs k d l) at i)

module _ {B : Type 0} (f : B → ℕ → B) (h : ℕ → Object) (xs : List ℕ) (k : ℕ) where
  pub fold_more_objects : (b c e : B) → k < length xs → c ≡ fold f b (object_numbers (h (get_or xs k 0))) →
      fold f b (objects_numbers (map h (drop k xs))) ≡ e → fold f c (objects_numbers (map h (drop (k + 1) xs))) ≡ e
  fold_more_objects b c e l s i =
      let after : List ℕ = objects_numbers (map h (drop (suc k) xs)) in
      rw add-one (ap (λ x. fold f x after) s ∙ sym (fold-append f b (object_numbers (h (get_or xs k 0))) after) ∙ rw (drop-cons xs k 0 l) at i)

-- the positions from p on, of n
pub positions_more : (p n : ℕ) → p < n → range_with_len p (n - p) ≡ p ∷ range_with_len (p + 1) (n - (p + 1))
positions_more p n l = let e : n - p ≡ suc (n - (p + 1)) = omega arith in rw e

pub positions_none : (p n : ℕ) → n ≤ p → range_with_len p (n - p) ≡ []
positions_none p n l = let e : n - p ≡ 0 = omega arith in rw e

module _ (is : ℕ → Bool) (word : ℕ → ℕ) where
  pub references_more : (p n : ℕ) → p < n →
      references is p (map word (range_with_len p (n - p)))
      ≡ cond (is p) (word p ∷ references is (p + 1) (map word (range_with_len (p + 1) (n - (p + 1))))) (references is (p + 1) (map word (range_with_len (p + 1) (n - (p + 1)))))
  references_more p n l = ap (λ ks. references is p (map word ks)) (positions_more p n l)

  pub renumbered_more : (f : ℕ → ℕ) (p n : ℕ) → p < n →
      renumbered is f p (map word (range_with_len p (n - p)))
      ≡ cond (is p) (f (word p)) (word p) ∷ renumbered is f (p + 1) (map word (range_with_len (p + 1) (n - (p + 1))))
  renumbered_more f p n l = ap (λ ks. renumbered is f p (map word ks)) (positions_more p n l)

-- one more word of an object
module _ {B : Type 0} (f : B → ℕ → B) (is : ℕ → Bool) (word number : ℕ → ℕ) (p n : ℕ) (l : p < n) where
  pub word_more : (v : ℕ) (b c e : B) → v ≡ cond (is p) (number (word p)) (word p) → c ≡ f b v →
      fold f b (renumbered is number p (map word (range_with_len p (n - p)))) ≡ e →
      fold f c (renumbered is number (p + 1) (map word (range_with_len (p + 1) (n - (p + 1))))) ≡ e
  word_more v b c e q s i =
      ap (λ x. fold f x (renumbered is number (p + 1) (map word (range_with_len (p + 1) (n - (p + 1)))))) (s ∙ ap (f b) q)
      ∙ ap (fold f b) (sym (renumbered_more is word number p n l)) ∙ i

module _ (is : ℕ → Bool) (word : ℕ → ℕ) (p n : ℕ) (l : p < n) where
  abbrev rest : List ℕ
  rest = references is (p + 1) (map word (range_with_len (p + 1) (n - (p + 1))))

  pub referent_more : (ws us end : List ℕ) → us ≡ cond (is p) (met (word p) ws) ws →
      all_met (references is p (map word (range_with_len p (n - p)))) ws ≡ end → all_met rest us ≡ end
  referent_more ws us end e h = by (is p) e (ap (λ vs. all_met vs ws) (sym (references_more is word p n l)) ∙ h)
    where
      by : (t : Bool) → us ≡ cond t (met (word p) ws) ws → all_met (cond t (word p ∷ rest) rest) ws ≡ end → all_met rest us ≡ end
      by true q i = ap (all_met rest) q ∙ i
      by false q i = ap (all_met rest) q ∙ i

  pub referent_over : (m : ℕ) (ws end : List ℕ) → is p ≡ true → m < length (met (word p) ws) →
      all_met (references is p (map word (range_with_len p (n - p)))) ws ≡ end → m < length end
  referent_over m ws end t b h =
      let e : all_met rest (met (word p) ws) ≡ end = ap (λ vs. all_met vs ws) (sym (references_more is word p n l ∙ cond-true _ _ _ t)) ∙ h in
      omega (arith, ap length e, longer (all_met_begins rest (met (word p) ws)))

pub map_both : {A : Type 0} (f : ℕ → ℕ) (h : A → ℕ) (xs : List A) → map (λ x. f (h x)) xs ≡ map f (map h xs)
map_both f h [] = refl
map_both f h (x ∷ xs) = ap (λ ys. f (h x) ∷ ys) (map_both f h xs)

-- the first n of a list are its values at the places 0 .. n - 1
pub taken_values : {A : Type 0} (h : A → ℕ) (xs : List A) (d : A) (a n : ℕ) → a + n ≤ length xs →
    map h (take n (drop a xs)) ≡ map (λ k. h (get_or xs k d)) (range_with_len a n)
taken_values h xs d a zero l = refl
taken_values h xs d a (suc n) l =
    let b : a < length xs = omega arith in
    let ih : map h (take n (drop (a + 1) xs)) ≡ map (λ k. h (get_or xs k d)) (range_with_len (a + 1) n) = taken_values h xs d (a + 1) n (omega arith) in
    rw (drop-cons xs a d b) (ap (λ ys. h (get_or xs a d) ∷ ys) (ap (λ j. map h (take n (drop j xs))) (sym (add-one a)) ∙ ih))
