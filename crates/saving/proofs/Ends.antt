-- How a call of save ends.
use Rattle.std.proofs.Common.{◌≡◌, ℕ, suc, ◌+◌, ◌-◌, ◌^◌, ◌<◌, ◌≤◌, min, Ok, Err, List, ◌∷◌, ◌++◌, length, map, drop, sym, ap, ap₂, ◌∙◌, arith, length-drop}
use Rattle.std.specs.List.{fold}
use Rattle.std.proofs.lemmas.Bool.{cond-true, cond-false, lt-ltb, le-ltb}
use Rattle.std.proofs.lemmas.List.{length-map}
use Rattle.layout.specs.Shape.{Shape}
use Rattle.leb128.proofs.Laws.{replaced_is}
use Rattle.image.specs.Content.{Content, numbers, written}
use Rattle.model.specs.Graph.{Graph}
use Rattle.model.specs.declared.edits.Refusal.{Refusal}
use Rattle.model.specs.declared.edits.Refusal.TheVariants.{WorkListShort, OutputShort}
use Rattle.canonical.specs.Walk.{place_of}
use Rattle.canonical.specs.Saving.{order, number, roots_of, object_of, content_of}
use Rattle.saving.specs.Saved.{fitted, saved}
use Rattle.saving.specs.Passes.{measured, put, image_numbers, content_in}
use Rattle.saving.proofs.Sums.{image_written, all_measured, all_put}

from_zero : (n : ℕ) → 0 + n ≡ n
from_zero n = omega arith

-- a pass over the whole image
pub measure_is : (S : Shape) (c : Content) (out : List ℕ) → fold measured (0, out) (image_numbers S c) ≡ (min (length (written S c)) (2 ^ 64 - 1), out)
measure_is S c out = all_measured (image_numbers S c) 0 out ∙ ap (λ n. (min n (2 ^ 64 - 1), out)) (from_zero (length (numbers (image_numbers S c)))) ∙ ap (λ bs. (min (length bs) (2 ^ 64 - 1), out)) (sym (image_written S c))

pub write_is : (S : Shape) (c : Content) (out : List ℕ) → length (written S c) ≤ length out →
    fold put (0, out) (image_numbers S c) ≡ (length (written S c), written S c ++ drop (length (written S c)) out)
write_is S c out l =
    let e : numbers (image_numbers S c) ≡ written S c = sym (image_written S c) in
    let room : 0 + length (numbers (image_numbers S c)) ≤ length out = omega (arith, ap length e) in
    all_put (image_numbers S c) 0 out room
    ∙ ap (λ bs. (0 + length (numbers (image_numbers S c)), bs)) (replaced_is (numbers (image_numbers S c)) out 0 room)
    ∙ ap (λ n. (n, numbers (image_numbers S c) ++ drop n out)) (from_zero (length (numbers (image_numbers S c))))
    ∙ ap (λ bs. (length bs, bs ++ drop (length bs) out)) e

module _ (S : Shape) (c : Content) (out : List ℕ) where
  pub list_short : (n : ℕ) → n < length c.objects → saved S c n out ≡ (Err WorkListShort, out)
  unfolding saved
  list_short n l = cond-true _ _ _ (lt-ltb n (length c.objects) l)

  pub list_enough : (n : ℕ) → length c.objects ≤ n → saved S c n out ≡ fitted S c out
  unfolding saved
  list_enough n l = cond-false _ _ _ (le-ltb n (length c.objects) l)

  output_short : length out < length (written S c) → fitted S c out ≡ (Err OutputShort, out)
  unfolding fitted
  output_short l = cond-true _ _ _ (lt-ltb (length out) (length (written S c)) l)

  output_enough : length (written S c) ≤ length out → fitted S c out ≡ (Ok (length (written S c)), written S c ++ drop (length (written S c)) out)
  unfolding fitted
  output_enough l = cond-false _ _ _ (le-ltb (length out) (length (written S c)) l)

  -- the image is measured, and then written or not
  module _ (long : ℕ) (out′ : List ℕ) (measure : (long, out′) ≡ fold measured (0, out) (image_numbers S c)) where
    is : ◌≡◌ {A = ℕ × List ℕ} (long, out′) (min (length (written S c)) (2 ^ 64 - 1), out)
    is = measure ∙ measure_is S c out

    pub refused_output : length out′ < long → (Err OutputShort, out′) ≡ fitted S c out
    refused_output l =
        let a : long ≡ min (length (written S c)) (2 ^ 64 - 1) = ap (λ p. p.0) is in
        let b : out′ ≡ out = ap (λ p. p.1) is in
        ap (λ o. (Err OutputShort, o)) b ∙ sym (output_short (omega (arith, ap length b)))

    pub granted : (end : ℕ) (out″ : List ℕ) → length out < 2 ^ 64 - 1 → long ≤ length out′ →
        (end, out″) ≡ fold put (0, out′) (image_numbers S c) → (Ok long, out″) ≡ fitted S c out
    granted end out″ u l h =
        let a : long ≡ min (length (written S c)) (2 ^ 64 - 1) = ap (λ p. p.0) is in
        let b : out′ ≡ out = ap (λ p. p.1) is in
        let room : length (written S c) ≤ length out = omega (arith, ap length b) in
        let all : long ≡ length (written S c) = omega (arith, ap length b) in
        let i : (end, out″) ≡ (length (written S c), written S c ++ drop (length (written S c)) out) =
        h ∙ ap (λ o. fold put (0, o) (image_numbers S c)) b ∙ write_is S c out room in
        ap₂ (λ k o. (Ok k, o)) all (ap (λ p. p.1) i) ∙ sym (output_enough room)

-- the content of the entries is that of the graph
content_by : Shape → Graph → List ℕ → Content
content_by S g ws = record { roots = map (λ v. place_of v ws) (roots_of g); objects = map (object_of S g (λ v. place_of v ws)) (drop 1 ws) }

pub content_from_order : (S : Shape) (g : Graph) (m n : ℕ) → order S g m ≡ order S g n → content_of S g m ≡ content_of S g n
unfolding content_by
content_from_order S g m n same = ap (content_by S g) same

module _ (S : Shape) (g h : Graph) (n : ℕ) (entries : List ℕ) (same : h ≡ g) (order_is : 0 ∷ entries ≡ order S g n) where
  pub content_same : content_in S h entries ≡ content_of S g n
  unfolding content_by
  content_same = ap (λ x. content_in S x entries) same ∙ ap (content_by S g) order_is

  pub objects_few : length entries ≤ n → length (content_of S g n).objects ≤ n
  objects_few l = omega (arith, length-map (drop 1 (order S g n)) (object_of S g (number S g n)), length-drop 1 (order S g n), ap length order_is)

pub refused_list : (S : Shape) (g : Graph) (n : ℕ) (out : List ℕ) (m : ℕ) (why : Refusal) → m ≡ n → why ≡ WorkListShort →
    suc m < length (order S g n) → (Err why, out) ≡ saved S (content_of S g n) n out
refused_list S g n out m why q e l =
    ap (λ w. (Err w, out)) e
    ∙ sym (list_short S (content_of S g n) out n (omega (arith, length-map (drop 1 (order S g n)) (object_of S g (number S g n)), length-drop 1 (order S g n))))
