-- Alike graphs have one content: the roots hold matching values, and matching values refer to matching values, so that these
-- are met in the same order, and have the same numbers. A walk of as many steps in both reaches both ends.
use Rattle.std.proofs.Common.{◌≡◌, ℕ, zero, suc, ◌-◌, ◌≤◌, max, ◌↔◌, List, map, refl, ap, ap₂, subst, arith}
use Rattle.std.specs.List.{range_with_len}
use Rattle.layout.specs.Shape.{Shape}
use Rattle.image.specs.Content.{Content, Object}
use Rattle.model.specs.Graph.{Graph}
use Rattle.canonical.specs.Walk.{walked}
use Rattle.canonical.specs.Saving.{references, renumbered, words_of, referred, root_count, roots_of, order, number, object_of, content_of, Within}
use Rattle.canonical.specs.Alike.{Match, Matching, OneContent}
use Rattle.canonical.proofs.Walking.{walked_same}
use Rattle.canonical.proofs.Roots.{count_same}
use Rattle.canonical.proofs.Reached.{first, good_walked, order_most}
use Rattle.canonical.proofs.Pairs.{Pairs, pairs_behind, pairs_map, pairs_place, pairs_all_met, pairs_walked}
use Rattle.canonical.proofs.Pairs.Pairs.{none, pair}
use Rattle.canonical.proofs.Words.{plain_from, pairs_values, pairs_references, renumbered_same}

abbrev pub content : List ℕ → List Object → Content
content rs os = record { roots = rs; objects = os }

module _ {S : Shape} {g h : Graph} {R : ℕ → ℕ → Type 0} (m : Matching S g h R) where
  -- of values, too, none matches two
  match_one : (a b c d : ℕ) → Match R a b → Match R c d → (a ≡ c) ↔ (b ≡ d)
  match_one zero zero zero zero p q = (λ e. refl, λ e. refl)
  match_one zero zero (suc c) (suc d) p q = (λ e. absurd (omega arith), λ e. absurd (omega arith))
  match_one (suc a) (suc b) zero zero p q = (λ e. absurd (omega arith), λ e. absurd (omega arith))
  match_one (suc a) (suc b) (suc c) (suc d) p q = (
    λ e. ap suc ((m.one a b c d p q).0 (omega arith)),
    λ e. ap suc ((m.one a b c d p q).1 (omega arith)),
  )
  match_one zero (suc b) c d p q = absurd p
  match_one (suc a) zero c d p q = absurd p
  match_one zero zero zero (suc d) p q = absurd q
  match_one zero zero (suc c) zero p q = absurd q
  match_one (suc a) (suc b) zero (suc d) p q = absurd q
  match_one (suc a) (suc b) (suc c) zero p q = absurd q

  referred_pairs : (a b : ℕ) → Match R a b → Pairs (Match R) (referred S g a) (referred S h b)
  referred_pairs zero zero p = none
  referred_pairs zero (suc b) p = absurd p
  referred_pairs (suc a) zero p = absurd p
  referred_pairs (suc a) (suc b) p =
      subst (λ x. Pairs (Match R) (referred S g (suc a)) (references (S.reference x) 1 (map (h.field b) (range_with_len 1 (S.size x - 1))))) (m.heads a b p)
      (pairs_references (S.reference (g.head a)) (g.field a) (h.field b) (λ i e. m.references a b i p e) 1 (S.size (g.head a) - 1))

  no_nil : (a : ℕ) → Match R a 0 → a ≡ 0
  no_nil zero p = refl
  no_nil (suc a) p = absurd p

  nil_no : (b : ℕ) → Match R 0 b → b ≡ 0
  nil_no zero p = refl
  nil_no (suc b) p = absurd p

  same_count : root_count g ≡ root_count h
  same_count = count_same g h (λ k e. nil_no (h.root k) (subst (λ x. Match R x (h.root k)) e (m.roots k))) (λ k e. no_nil (g.root k) (subst (λ x. Match R (g.root k) x) e (m.roots k)))

  roots_pairs : Pairs (Match R) (roots_of g) (roots_of h)
  roots_pairs = subst (λ l. Pairs (Match R) (roots_of g) (map h.root (range_with_len 0 l))) same_count (pairs_values g.root h.root m.roots 0 (root_count g))

  module _ (n l : ℕ) (wg : Within S g n) (wh : Within S h l) where
    -- a walk of more steps, as many for both, is the order
    abbrev steps : ℕ
    steps = suc (max n l)

    order_pairs : Pairs (Match R) (order S g n) (order S h l)
    order_pairs =
        subst (λ x. Pairs (Match R) x (order S h l)) (long g n wg (omega arith))
        (subst (Pairs (Match R) (walked (referred S g) steps 0 (first S g n wg))) (long h l wh (omega arith))
        (pairs_walked (Match R) tt match_one (referred S g) (referred S h) referred_pairs steps 0 (pairs_all_met (Match R) tt match_one roots_pairs (pair tt none))))
      where
        long : (x : Graph) (k : ℕ) (w : Within S x k) → k ≤ max n l → walked (referred S x) steps 0 (first S x k w) ≡ order S x k
        long x k w b = walked_same (referred S x) refl steps (suc k) 0 (first S x k w) (omega (arith, (good_walked S x k w steps).1.0)) (omega (arith, order_most S x k w))

    same_number : (a b : ℕ) → Match R a b → number S g n a ≡ number S h l b
    same_number a b p = pairs_place (Match R) tt match_one a b p order_pairs

    same_object : (a b : ℕ) → Match R a b → object_of S g (number S g n) a ≡ object_of S h (number S h l) b
    same_object zero zero p = refl
    same_object zero (suc b) p = absurd p
    same_object (suc a) zero p = absurd p
    same_object (suc a) (suc b) p =
        let e : g.head a ≡ h.head b = m.heads a b p in
        let body : renumbered (S.reference (g.head a)) (number S g n) 1 (words_of S g a) ≡ renumbered (S.reference (g.head a)) (number S h l) 1 (map (h.field b) (range_with_len 1 (S.size (g.head a) - 1))) =
        renumbered_same (S.reference (g.head a)) (number S g n) (number S h l) (g.field a) (h.field b) 1 (S.size (g.head a) - 1)
        (λ i r. same_number (g.field a i) (h.field b i) (m.references a b i p r))
        (λ i u v r. m.plains a b i p (plain_from S (g.head a) i u v r)) in
        let object : ℕ → List ℕ → Object = λ x xs. record { header = x; body = xs } in
        subst (λ x. object_of S g (number S g n) (suc a) ≡ object x (renumbered (S.reference x) (number S h l) 1 (map (h.field b) (range_with_len 1 (S.size x - 1))))) e
        (ap (object (g.head a)) body)

    same_content : content_of S g n ≡ content_of S h l
    same_content =
        ap₂ content
        (pairs_map (number S g n) (number S h l) same_number roots_pairs)
        (pairs_map (object_of S g (number S g n)) (object_of S h (number S h l)) same_object (pairs_behind order_pairs))

pub one_content : (S : Shape) → OneContent S
one_content S g h n l wg wh (r, m) = same_content m n l wg wh
