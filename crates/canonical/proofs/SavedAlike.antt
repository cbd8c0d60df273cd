-- What is saved of a graph is alike: each object is related with that of its number, whose words are the same but that each value
-- is given by its number. Graphs of one content are alike, since both are alike to the graph of that content.
use Rattle.std.proofs.Common.{◌≡◌, ℕ, zero, suc, ◌+◌, ◌-◌, ◌<◌, ◌≤◌, Bool, true, cond, ◌&&◌, eqb, ltb, List, drop, length, get_or, sym, refl, ap, ◌∙◌, subst, inl, inr, arith, length-drop}
use Rattle.std.proofs.lemmas.Bool.{cases_lt, cond-true, cond-false, and_from, and_parts, lt-ltb, ltb-true, eq-eqb, eqb-true}
use Rattle.std.proofs.lemmas.List.{get_or-map, get_or-drop, get_or_past}
use Rattle.std.proofs.lemmas.List.FromFn.{length-map-range_with_len}
use Rattle.layout.specs.Shape.{Shape, Lawful}
use Rattle.image.specs.Content.{Object}
use Rattle.model.specs.Graph.{Graph}
use Rattle.model.specs.Edits.{object_at, graph_of}
use Rattle.canonical.specs.Walk.{place_of}
use Rattle.canonical.specs.Saving.{words_of, root_count, order, number, object_of, content_of, Whole}
use Rattle.canonical.specs.Alike.{Match, Matching, Alike, AlikeFromContent}
use Rattle.canonical.specs.Saved.{SavedAlike}
use Rattle.canonical.proofs.Places.{In, at_place}
use Rattle.canonical.proofs.Words.{plain_parts, word_at_place, renumbered_at}
use Rattle.canonical.proofs.Reached.{root_past, nil_number, root_in, field_in}
use Rattle.canonical.proofs.Numbering.{nil_from_number, roots_length, saved_root, well_numbered}
use Rattle.canonical.proofs.Relations.{Meet, matching_to, matching_meet}

-- an object and the name of the object that is saved of it
abbrev pub Saved : List ℕ → ℕ → ℕ → Type 0
Saved end a b = In end (suc a) × (place_of (suc a) end ≡ suc b)

module _ {S : Shape} (law : Lawful S) {g : Graph} {n : ℕ} (w : Whole S g n) where
  abbrev end : List ℕ
  end = order S g n

  abbrev roots : List ℕ
  roots = (content_of S g n).roots

  abbrev saved : ℕ → Object
  saved = object_of S g (number S g n)

  match_number : (v : ℕ) → In end v → Match (Saved end) v (number S g n v)
  match_number zero h = rw (nil_number S g n w.within) tt
  match_number (suc a) h = by (number S g n (suc a)) refl
    where
      by : (k : ℕ) → number S g n (suc a) ≡ k → Match (Saved end) (suc a) k
      by zero e = omega (arith, nil_from_number w (suc a) h e)
      by (suc b) e = (h, e)

  match_root : (k : ℕ) → Match (Saved end) (g.root k) (get_or roots k 0)
  match_root k = elim (cases_lt k (root_count g)) [
    | inl l ↦ subst (Match (Saved end) (g.root k)) (sym (saved_root w k l)) (match_number (g.root k) (root_in S g n w.within k))
    | inr l ↦
        subst (Match (Saved end) (g.root k)) (sym (get_or_past roots k 0 (omega (arith, roots_length w))))
        (subst (λ v. Match (Saved end) v 0) (sym (root_past S g n w.within k l)) tt)
  ]

  object_is : (a b : ℕ) → Saved end a b → object_at (content_of S g n).objects b ≡ saved (suc a)
  object_is a b (h, e) =
      let l : b < length (drop 1 end) = omega (arith, length-drop 1 end) in
      let k : 1 + b ≡ place_of (suc a) end = omega arith in
      get_or-map saved (drop 1 end) b 0 _ l ∙ ap saved (get_or-drop 1 end b 0 ∙ ap (λ j. get_or end j 0) k ∙ at_place (suc a) end h)

  -- the word at a position, as it is saved
  word_is : (a i : ℕ) → 1 ≤ i → i < S.size (g.head a) →
      get_or (saved (suc a)).body (i - 1) 0 ≡ cond (S.reference (g.head a) i) (number S g n (g.field a i)) (g.field a i)
  word_is a i l u =
      let k : 1 + (i - 1) ≡ i = omega arith in
      let at : get_or (words_of S g a) (i - 1) 0 ≡ g.field a i = word_at_place (g.field a) 1 (S.size (g.head a) - 1) (i - 1) (omega arith) ∙ ap (g.field a) k in
      renumbered_at (S.reference (g.head a)) (number S g n) 1 (words_of S g a) (i - 1) (omega (arith, length-map-range_with_len (g.field a) 1 (S.size (g.head a) - 1)))
      ∙ ap (λ j. cond (S.reference (g.head a) j) (number S g n (get_or (words_of S g a) (i - 1) 0)) (get_or (words_of S g a) (i - 1) 0)) k
      ∙ ap (λ v. cond (S.reference (g.head a) i) (number S g n v) v) at

  pub saved_matching : Matching S g (graph_of (content_of S g n)) (Saved end)
  saved_matching = record {
    one = λ a b c d p q. (
      λ e. let f : number S g n (suc a) ≡ number S g n (suc c) = ap (λ x. number S g n (suc x)) e in omega (arith, p.1, q.1),
      λ e.
          let f : number S g n (suc a) ≡ number S g n (suc c) = p.1 ∙ ap suc e ∙ sym q.1 in
          let x : suc a ≡ suc c = sym (at_place (suc a) end p.0) ∙ ap (λ k. get_or end k 0) f ∙ at_place (suc c) end q.0 in
          omega arith,
    );
    roots = match_root;
    heads = λ a b p. sym (ap (λ o. o.header) (object_is a b p));
    references = λ a b i p e.
        let r = law.inside (g.head a) i e in
        let is : get_or (object_at (content_of S g n).objects b).body (i - 1) 0 ≡ number S g n (g.field a i) =
        ap (λ o. get_or o.body (i - 1) 0) (object_is a b p) ∙ word_is a i r.0 r.1 ∙ cond-true _ _ _ e in
        subst (Match (Saved end) (g.field a i)) (sym is) (match_number (g.field a i) (field_in S g n w.within law a i p.0 e));
    plains = λ a b i p e.
        let r = plain_parts S (g.head a) i e in
        sym (ap (λ o. get_or o.body (i - 1) 0) (object_is a b p) ∙ word_is a i r.0 r.1 ∙ cond-false _ _ _ r.2);
  }

  pub saved_alike : Alike S g (graph_of (content_of S g n))
  saved_alike = (test, matching_to (Saved end) (λ a b. test a b ≡ true) to from saved_matching)
    where
      test : ℕ → ℕ → Bool
      test a b = ltb (place_of (suc a) end) (length end) && eqb (place_of (suc a) end) (suc b)

      to : (a b : ℕ) → Saved end a b → test a b ≡ true
      to a b p = and_from _ _ (lt-ltb _ _ p.0) (eq-eqb _ _ p.1)

      from : (a b : ℕ) → test a b ≡ true → Saved end a b
      from a b e = let p = and_parts _ _ e in (ltb-true _ _ p.0, eqb-true _ _ p.1)

pub content_alike : (S : Shape) → Lawful S → SavedAlike S
content_alike S law g n w few = (well_numbered w few, saved_alike law w)

pub alike_from_content : (S : Shape) → Lawful S → AlikeFromContent S
alike_from_content S law g h n m wg wh e =
    let here : Matching S g (graph_of (content_of S g n)) (Saved (order S g n)) = saved_matching law wg in
    let there : Matching S h (graph_of (content_of S g n)) (Saved (order S h m)) =
    subst (λ c. Matching S h (graph_of c) (Saved (order S h m))) (sym e) (saved_matching law wh) in
    (test, matching_to (Meet (Saved (order S g n)) (Saved (order S h m))) (λ a b. test a b ≡ true) to from (matching_meet (Saved (order S g n)) (Saved (order S h m)) here there))
  where
    -- both are saved, with one number
    test : ℕ → ℕ → Bool
    test a b =
        ltb (number S g n (suc a)) (length (order S g n))
        && (ltb (number S h m (suc b)) (length (order S h m)) && eqb (number S g n (suc a)) (number S h m (suc b)))

    to : (a b : ℕ) → Meet (Saved (order S g n)) (Saved (order S h m)) a b → test a b ≡ true
    to a b p = and_from _ _ (lt-ltb _ _ p.1.0) (and_from _ _ (lt-ltb _ _ p.2.0) (eq-eqb _ _ (p.1.1 ∙ sym p.2.1)))

    from : (a b : ℕ) → test a b ≡ true → Meet (Saved (order S g n)) (Saved (order S h m)) a b
    from a b t =
        let p = and_parts _ _ t in
        let q = and_parts _ _ p.1 in
        let i : In (order S g n) (suc a) = ltb-true _ _ p.0 in
        let j : In (order S h m) (suc b) = ltb-true _ _ q.0 in
        let same : number S g n (suc a) ≡ number S h m (suc b) = eqb-true _ _ q.1 in
        by (number S g n (suc a)) refl i j same
      where
        by : (k : ℕ) → number S g n (suc a) ≡ k → In (order S g n) (suc a) → In (order S h m) (suc b) → number S g n (suc a) ≡ number S h m (suc b) →
            Meet (Saved (order S g n)) (Saved (order S h m)) a b
        by zero z i j same = absurd (omega (arith, nil_from_number wg (suc a) i z))
        by (suc k) z i j same = (k, (i, z), (j, sym same ∙ z))
