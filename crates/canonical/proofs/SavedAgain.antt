-- A well-numbered content, taken as a graph, is saved as it is. Where references are numbered as they are first met, the values
-- met are 0, 1, 2, and so on, so that each is its own number, and renumbering leaves every word as it is.
use Rattle.std.proofs.Common.{◌≡◌, ℕ, zero, suc, ◌+◌, ◌-◌, ◌<◌, ◌≤◌, Bool, true, false, List, [], ◌∷◌, map, drop, length, get_or, sym, refl, ap, ap₂, ◌∙◌, subst, arith, length-drop}
use Rattle.std.specs.List.{AllByRecursion as Each, range_with_len}
use Rattle.std.proofs.lemmas.List.{ext_get_or, get_or-map, get_or-drop, get_or_past, length-map}
use Rattle.std.proofs.lemmas.List.FromFn.{fill_by_all, length-map-range_with_len}
use Rattle.layout.specs.Shape.{Shape, Lawful}
use Rattle.image.specs.Content.{Content, Object}
use Rattle.image.specs.Read.{root_role}
use Rattle.image.specs.Numbering.{greatest_of, Ordered, WellNumbered}
use Rattle.model.specs.Graph.{Graph, Reach}
use Rattle.model.specs.Graph.Reach.{by_root, by_field}
use Rattle.model.specs.Edits.{object_at, graph_of}
use Rattle.canonical.specs.Walk.{place_of, all_met, walked}
use Rattle.canonical.specs.Saving.{references, renumbered, words_of, referred, root_count, roots_of, order, number, object_of, content_of, Whole}
use Rattle.canonical.specs.Saved.{SavedAgain}
use Rattle.canonical.proofs.Walking.{each_at, each_weaker}
use Rattle.canonical.proofs.Roots.{count_is}
use Rattle.canonical.proofs.Words.{plain_parts, word_at_place, renumbered_kept, always, always_references, always_renumbered}
use Rattle.canonical.proofs.OneContent.{content}
use Rattle.canonical.proofs.Upto.{upto, length-upto, place-upto, at_upto}
use Rattle.canonical.proofs.Turns.{Stands, after_all, InTurn, all_met_turn, after_least, after_most, turn_at, turn_most}
use Rattle.canonical.proofs.Roles.{body_after, turn_from_body, root_after, turn_from_roots, root_last, Sound, ordered_at}

-- a list is that of what stands at its places, counted from 0 or from 1
listed : (vs : List ℕ) → map (λ k. get_or vs k 0) (range_with_len 0 (length vs)) ≡ vs
listed vs = sym (fill_by_all (λ k. get_or vs k 0) vs (length vs) 0 refl (λ k l. refl))

listed_from_one : (vs : List ℕ) → map (λ k. get_or vs (k - 1) 0) (range_with_len 1 (length vs)) ≡ vs
listed_from_one vs =
    let word : ℕ → ℕ = λ k. get_or vs (k - 1) 0 in
    ext_get_or 0 (map word (range_with_len 1 (length vs))) vs (length-map-range_with_len word 1 (length vs))
    (λ i l.
    let e : 1 + i - 1 ≡ i = omega arith in
    word_at_place word 1 (length vs) i (omega (arith, length-map-range_with_len word 1 (length vs))) ∙ ap (λ j. get_or vs j 0) e)

-- what a list begins with after its first j
drop_parts : {A : Type 0} (xs : List A) (j : ℕ) (d x : A) (ys : List A) → drop j xs ≡ x ∷ ys → (get_or xs j d ≡ x) × (drop (suc j) xs ≡ ys)
drop_parts [] zero d x ys e = absurd (omega (arith, ap length e))
drop_parts [] (suc j) d x ys e = absurd (omega (arith, ap length e))
drop_parts (y ∷ xs) zero d x ys e = (ap (λ z. get_or z 0 d) e, ap (drop 1) e)
drop_parts (y ∷ xs) (suc j) d x ys e = drop_parts xs j d x ys e

module _ {S : Shape} (law : Lawful S) {c : Content} (w : WellNumbered S c) where
  abbrev g : Graph
  g = graph_of c

  abbrev n : ℕ
  n = length c.objects

  abbrev l : ℕ
  l = length c.roots

  root_turn : InTurn always n 0 0 c.roots
  root_turn = turn_from_roots l n 0 0 c.roots w.roots

  roots_most : Each (λ v. v ≤ n) c.roots
  roots_most = subst (Each (λ v. v ≤ n)) (always_references 0 c.roots) (turn_most always n 0 0 c.roots root_turn)

  same_count : root_count g ≡ l
  same_count = count_is g l w.few_roots (λ k h. get_or_past c.roots k 0 h) (root_last l n 0 0 c.roots w.roots (omega arith))

  same_roots : roots_of g ≡ c.roots
  same_roots = ap (λ k. map g.root (range_with_len 0 k)) same_count ∙ listed c.roots

  object : (j : ℕ) → j < n → Sound S n (object_at c.objects j)
  object j b = ordered_at S n 1 (greatest_of (root_role l) 0 0 c.roots) c.objects w.objects j b

  words_are : (o : Object) → length o.body ≡ S.size o.header - 1 → map (λ k. get_or o.body (k - 1) 0) (range_with_len 1 (S.size o.header - 1)) ≡ o.body
  words_are o e = subst (λ k. map (λ i. get_or o.body (i - 1) 0) (range_with_len 1 k) ≡ o.body) e (listed_from_one o.body)

  -- from object j + 1 on
  walk_upto : (os : List Object) (j m : ℕ) → drop j c.objects ≡ os → length os + j ≡ n → j ≤ m → m ≤ n → Ordered S n (suc j) m os →
      walked (referred S g) (length os) (suc j) (upto m) ≡ upto n
  walk_upto [] j m e s a b d = let k : m ≡ n = omega arith in ap upto k
  walk_upto (o ∷ os) j m e s a b (due, wide, legal, long, numbered, more) =
      let parts = drop_parts c.objects j (record { header = 0; body = [] }) o os e in
      let turn : InTurn (S.reference o.header) n 1 m o.body = turn_from_body S o.header n 1 m o.body numbered in
      let next : ℕ = after_all (S.reference o.header) 1 m o.body in
      let there : referred S g (get_or (upto m) (suc j) 0) ≡ references (S.reference o.header) 1 o.body =
      ap (referred S g) (at_upto m (suc j) due)
      ∙ ap (λ x. references (S.reference x.header) 1 (map (λ k. get_or x.body (k - 1) 0) (range_with_len 1 (S.size x.header - 1)))) parts.0
      ∙ ap (references (S.reference o.header) 1) (words_are o long) in
      let on : suc j + 1 ≡ suc (suc j) = omega arith in
      ap (walked (referred S g) (length os) (suc (suc j))) (ap (λ vs. all_met vs (upto m)) there ∙ all_met_turn (S.reference o.header) n 1 m o.body turn)
      ∙ walk_upto os (suc j) next parts.1 (omega arith) (omega (arith, after_least (S.reference o.header) 1 m o.body)) (after_most (S.reference o.header) n 1 m o.body b turn)
      (subst (λ x. Ordered S n x next os) on (subst (λ x. Ordered S n (suc j + 1) x os) (body_after S o.header 1 m o.body) more))

  order_upto : order S g n ≡ upto n
  order_upto =
      let top : ℕ = after_all always 0 0 c.roots in
      let met : all_met (roots_of g) (0 ∷ []) ≡ upto top =
      ap (λ vs. all_met vs (0 ∷ [])) (same_roots ∙ sym (always_references 0 c.roots)) ∙ all_met_turn always n 0 0 c.roots root_turn in
      ap (walked (referred S g) (suc n) 0) met
      ∙ ap (λ v. walked (referred S g) n 1 (all_met (referred S g v) (upto top))) (at_upto top 0 (omega arith))
      ∙ walk_upto c.objects 0 top refl (omega arith) (omega arith) (after_most always n 0 0 c.roots (omega arith) root_turn)
      (subst (λ m. Ordered S n 1 m c.objects) (root_after l 0 0 c.roots) w.objects)

  keeps : (v : ℕ) → v ≤ n → number S g n v ≡ v
  keeps v h = ap (place_of v) order_upto ∙ omega (arith, place-upto v n)

  roots_again : map (number S g n) (roots_of g) ≡ c.roots
  roots_again =
      ap (map (number S g n)) same_roots
      ∙ sym (always_renumbered (number S g n) 0 c.roots)
      ∙ renumbered_kept always (number S g n) 0 c.roots (subst (Each (λ v. number S g n v ≡ v)) (sym (always_references 0 c.roots)) (each_weaker keeps c.roots roots_most))

  object_again : (j : ℕ) → j < n → object_of S g (number S g n) (suc j) ≡ object_at c.objects j
  object_again j b =
      let o : Object = object_at c.objects j in
      let s : Sound S n o = object j b in
      let is : ℕ → Bool = S.reference o.header in
      let body : renumbered is (number S g n) 1 (words_of S g j) ≡ o.body =
      ap (renumbered is (number S g n) 1) (words_are o s.long)
      ∙ renumbered_kept is (number S g n) 1 o.body (each_weaker keeps (references is 1 o.body) (turn_most is n 1 s.before o.body s.turn)) in
      ap (λ (vs : List ℕ). record { header = o.header; body = vs }) body

  objects_again : map (object_of S g (number S g n)) (drop 1 (order S g n)) ≡ c.objects
  objects_again =
      ap (λ ws. map (object_of S g (number S g n)) (drop 1 ws)) order_upto
      ∙ ext_get_or (record { header = 0; body = [] }) (map (object_of S g (number S g n)) (drop 1 (upto n))) c.objects long
      (λ j b.
      let h : j < n = omega (arith, long) in
      let e : 1 + j ≡ suc j = omega arith in
      get_or-map (object_of S g (number S g n)) (drop 1 (upto n)) j 0 _ (omega (arith, short))
      ∙ ap (object_of S g (number S g n)) (get_or-drop 1 (upto n) j 0 ∙ at_upto n (1 + j) (omega arith) ∙ e)
      ∙ object_again j h)
    where
      short : length (drop 1 (upto n)) ≡ n
      short = omega (arith, length-drop 1 (upto n), length-upto n)

      long : length (map (object_of S g (number S g n)) (drop 1 (upto n))) ≡ n
      long = length-map (drop 1 (upto n)) (object_of S g (number S g n)) ∙ short

  content_again : content_of S g n ≡ c
  content_again = ap₂ content roots_again objects_again

  -- what stands at a position of an object
  held_at : (j i : ℕ) → j < n → 1 ≤ i → i < S.size (g.head j) → (t : Bool) → S.reference (g.head j) i ≡ t → Stands t n (g.field j i)
  held_at j i b p q t e =
      let s : Sound S n (object_at c.objects j) = object j b in
      let k : 1 + (i - 1) ≡ i = omega arith in
      subst (λ x. Stands x n (g.field j i)) (ap (S.reference (g.head j)) k ∙ e) (turn_at (S.reference (g.head j)) n 1 s.before (object_at c.objects j).body s.turn (i - 1) (omega (arith, s.long)))

  reference_held : (j i : ℕ) → j < n → S.reference (g.head j) i ≡ true → g.field j i ≤ n
  reference_held j i b e = let r = law.inside (g.head j) i e in held_at j i b r.0 r.1 true e

  roots_below : (k : ℕ) → g.root k ≤ n
  roots_below k = each_at (λ v. v ≤ n) c.roots k (omega arith) roots_most

  below : (o : ℕ) → Reach S g o → o < n
  below o (by_root k e) = omega (arith, roots_below k)
  below o (by_field {o = q} i r s e) = omega (arith, reference_held q i (below q r) s)

  whole : Whole S g n
  whole = record {
    within = record {
      roots = roots_below;
      past = λ k h. get_or_past c.roots k 0 (omega (arith, w.few_roots));
      references = λ o i r e. reference_held o i (below o r) e;
    };
    legal = λ o r. (object o (below o r)).legal;
    heads = λ o r. (object o (below o r)).wide;
    plains = λ o i r e. let p = plain_parts S (g.head o) i e in held_at o i (below o r) p.0 p.1 false p.2;
  }

pub saved_again : (S : Shape) → Lawful S → SavedAgain S
saved_again S law c w = (whole law w, content_again law w)
