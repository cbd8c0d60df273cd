-- What is saved of a graph is well numbered. A value that is met for the first time is put at the end of the list, so that it gets
-- the next number; and the walk takes the objects in the order of the list, so that each was met before its turn comes.
use Rattle.std.proofs.Common.{◌≡◌, ℕ, zero, suc, ◌+◌, ◌-◌, ◌^◌, ◌<◌, ◌≤◌, max, Bool, true, false, cond, List, [], ◌∷◌, map, drop, length, get_or, sym, refl, ap, ◌∙◌, subst, inl, inr, arith}
use Rattle.std.proofs.lemmas.Bool.{cases_lt}
use Rattle.std.proofs.lemmas.List.{drop_all, get_or-map, length-map}
use Rattle.std.proofs.lemmas.List.FromFn.{length-map-range_with_len}
use Rattle.std.proofs.Math.Seq.{drop-cons}
use Rattle.layout.specs.Shape.{Shape}
use Rattle.image.specs.Content.{Object}
use Rattle.image.specs.Numbering.{Ordered, WellNumbered}
use Rattle.model.specs.Graph.{Graph}
use Rattle.canonical.specs.Walk.{place_of, met, all_met, walked}
use Rattle.canonical.specs.Saving.{references, renumbered, words_of, referred, root_count, roots_of, order, number, object_of, content_of, Whole}
use Rattle.canonical.proofs.Places.{In, place-at-most, at_place, met_cases, place-met, in_met, length-end, Begins, begins_more, all_met_begins, place-kept, at_kept, longer, in_kept}
use Rattle.canonical.proofs.Walking.{each_at, walked_begins, walked_past}
use Rattle.canonical.proofs.Roots.{count_most, count_last}
use Rattle.canonical.proofs.Words.{plain_from, word_at_place, renumbered_length, always, always_references, always_renumbered}
use Rattle.canonical.proofs.Reached.{Good, good_nil, first, order_good, order_distinct, order_most, first_begins, nil_in, nil_number, root_in, objects_count}
use Rattle.canonical.proofs.Turns.{MayStand, after, after_all, InTurn}
use Rattle.canonical.proofs.Roles.{body_after, body_from_turn, root_after, roots_from_turn}

-- words are numbered in turn by the list at its end, and the list before it ends has the values up to the greatest of them
module _ (is : ℕ → Bool) (end : List ℕ) (n : ℕ) (long : length end ≡ suc n) where
  abbrev turned : ℕ → List ℕ → List ℕ
  turned i vs = renumbered is (λ v. place_of v end) i vs

  pub met_turn : (i m : ℕ) (vs ws : List ℕ) → length ws ≡ suc m → Begins (all_met (references is i vs) ws) end →
      ((k : ℕ) → k < length vs → is (i + k) ≡ false → get_or vs k 0 < 2 ^ 32) →
      InTurn is n i m (turned i vs) × (length (all_met (references is i vs) ws) ≡ suc (after_all is i m (turned i vs)))
  met_turn i m [] ws l b plain = (tt, l)
  met_turn i m (v ∷ vs) ws l b plain = by (is i) b (λ e. plain 0 (omega arith) (ap is (let z : i + 0 ≡ i = omega arith in z) ∙ e))
      (λ m′ ws′ l′ b′. met_turn (i + 1) m′ vs ws′ l′ b′ (λ k h e. plain (suc k) (omega arith) (ap is (let z : i + suc k ≡ i + 1 + k = omega arith in z) ∙ e)))
    where
      others : List ℕ
      others = references is (i + 1) vs

      by : (t : Bool) → Begins (all_met (cond t (v ∷ others) others) ws) end → (t ≡ false → v < 2 ^ 32) →
          ((m′ : ℕ) (ws′ : List ℕ) → length ws′ ≡ suc m′ → Begins (all_met others ws′) end →
          InTurn is n (i + 1) m′ (turned (i + 1) vs) × (length (all_met others ws′) ≡ suc (after_all is (i + 1) m′ (turned (i + 1) vs)))) →
          (MayStand t n m (cond t (place_of v end) v) × InTurn is n (i + 1) (after t m (cond t (place_of v end) v)) (turned (i + 1) vs))
          × (length (all_met (cond t (v ∷ others) others) ws) ≡ suc (after_all is (i + 1) (after t m (cond t (place_of v end) v)) (turned (i + 1) vs)))
      by true c p ih =
          let d : Begins (met v ws) end = begins_more (all_met_begins others (met v ws)) c in
          let here : place_of v end ≡ place_of v ws = place-kept d v (in_met v ws) ∙ place-met v ws in
          let low : In end v = in_kept d v (in_met v ws) in
          let up : length (met v ws) ≡ suc (max m (place_of v end)) = grind (arith, met_cases v ws, length-end ws v, place-at-most v ws) in
          let more = ih (max m (place_of v end)) (met v ws) up c in
          (((omega arith, omega (arith, place-at-most v ws)), more.0), more.1)
      by false c p ih = let more = ih m ws l c in ((p refl, more.0), more.1)

module _ {S : Shape} {g : Graph} {n : ℕ} (w : Whole S g n) where
  abbrev end : List ℕ
  end = order S g n

  -- how many objects there are
  abbrev count : ℕ
  count = length (content_of S g n).objects

  abbrev saved : ℕ → Object
  saved = object_of S g (number S g n)

  -- only nil has the number 0
  pub nil_from_number : (v : ℕ) → In end v → number S g n v ≡ 0 → v ≡ 0
  nil_from_number v h e = sym (at_place v end h) ∙ ap (λ k. get_or end k 0) (e ∙ sym (nil_number S g n w.within)) ∙ at_place 0 end (nil_in S g n w.within)

  object_ordered : (k m v : ℕ) (ws : List ℕ) (os : List Object) → length ws ≡ suc m → 1 ≤ k → k < length ws → k < length end → get_or end k 0 ≡ v →
      Begins (all_met (referred S g v) ws) end → ((m′ : ℕ) → length (all_met (referred S g v) ws) ≡ suc m′ → Ordered S count (k + 1) m′ os) →
      Ordered S count k m (saved v ∷ os)
  object_ordered k m zero ws os l p q b e x r = absurd (omega (arith, order_distinct S g n w.within k b, nil_number S g n w.within, ap (number S g n) e))
  object_ordered k m (suc o) ws os l p q b e x r =
      let h : ℕ = g.head o in
      let good : Good S g n w.within (suc o) = subst (Good S g n w.within) e (each_at (Good S g n w.within) end k (good_nil S g n w.within) (order_good S g n w.within)) in
      let plain : (i : ℕ) → i < length (words_of S g o) → S.reference h (1 + i) ≡ false → get_or (words_of S g o) i 0 < 2 ^ 32 =
      λ i u f.
      let l : i < S.size h - 1 = omega (arith, length-map-range_with_len (g.field o) 1 (S.size h - 1)) in
      subst (λ x. x < 2 ^ 32) (sym (word_at_place (g.field o) 1 (S.size h - 1) i l)) (w.plains o (1 + i) good.1 (plain_from S h (1 + i) (omega arith) (omega arith) f)) in
      let t = met_turn (S.reference h) end count (sym (objects_count S g n w.within)) 1 m (words_of S g o) ws l x plain in
      let body : List ℕ = (saved (suc o)).body in (
        omega arith,
        w.heads o good.1,
        w.legal o good.1,
        renumbered_length (S.reference h) (number S g n) 1 (words_of S g o) ∙ length-map-range_with_len (g.field o) 1 (S.size h - 1),
        body_from_turn S h count 1 m body t.0,
        subst (λ x. Ordered S count (k + 1) x os) (sym (body_after S h 1 m body)) (r (after_all (S.reference h) 1 m body) t.1),
      )

  -- the objects from number k on, where the list has been walked up to there
  walk_ordered : (f k m : ℕ) (ws : List ℕ) → walked (referred S g) f k ws ≡ end → length end ≤ k + f → length ws ≡ suc m → 1 ≤ k →
      Ordered S count k m (map saved (drop k end))
  walk_ordered zero k m ws e h l p = rw (drop_all k end (omega arith)) tt
  walk_ordered (suc f) k m ws e h l p = elim (cases_lt k (length ws)) [
    | inr ge ↦ rw (drop_all k end (omega (arith, ap length (sym (walked_past (referred S g) refl (suc f) k ws ge) ∙ e)))) tt
    | inl lt ↦
        (let x : Begins ws end = subst (Begins ws) e (walked_begins (referred S g) refl (suc f) k ws) in
        let b : k < length end = omega (arith, longer x) in
        let at : get_or end k 0 ≡ get_or ws k 0 = at_kept x k lt in
        let on : suc k ≡ k + 1 = omega arith in
        let next : List ℕ = all_met (referred S g (get_or ws k 0)) ws in
        rw (drop-cons end k 0 b)
        (object_ordered k m (get_or end k 0) ws (map saved (drop (suc k) end)) l p lt b refl
        (subst (λ v. Begins (all_met (referred S g v) ws) end) (sym at) (subst (Begins next) e (walked_begins (referred S g) refl f (suc k) next)))
        (λ m′ q.
        subst (λ j. Ordered S count j m′ (map saved (drop (suc k) end))) on
        (walk_ordered f (suc k) m′ next e (omega arith) (subst (λ v. length (all_met (referred S g v) ws) ≡ suc m′) at q) (omega arith)))))
  ]

  -- nil refers to nothing, so the first step leaves the list as it was
  behind_nil : walked (referred S g) n 1 (first S g n w.within) ≡ end
  behind_nil = sym (ap (λ v. walked (referred S g) n 1 (all_met (referred S g v) (first S g n w.within))) (at_kept (all_met_begins (roots_of g) (0 ∷ [])) 0 (omega arith)))

  abbrev roots : List ℕ
  roots = map (number S g n) (roots_of g)

  pub roots_length : length roots ≡ root_count g
  roots_length = length-map (roots_of g) (number S g n) ∙ length-map-range_with_len g.root 0 (root_count g)

  pub saved_root : (k : ℕ) → k < root_count g → get_or roots k 0 ≡ number S g n (g.root k)
  saved_root k l =
      get_or-map (number S g n) (roots_of g) k 0 0 (omega (arith, length-map-range_with_len g.root 0 (root_count g)))
      ∙ ap (number S g n) (word_at_place g.root 0 (root_count g) k l ∙ ap g.root (let e : 0 + k ≡ k = omega arith in e))

  roots_turn : InTurn always count 0 0 roots × (length (first S g n w.within) ≡ suc (after_all always 0 0 roots))
  roots_turn =
      let same : renumbered always (number S g n) 0 (roots_of g) ≡ roots = always_renumbered (number S g n) 0 (roots_of g) in
      let all : references always 0 (roots_of g) ≡ roots_of g = always_references 0 (roots_of g) in
      let t = met_turn always end count (sym (objects_count S g n w.within)) 0 0 (roots_of g) (0 ∷ []) refl
      (subst (λ vs. Begins (all_met vs (0 ∷ [])) end) (sym all) (first_begins S g n w.within)) (λ k h e. cc) in
      (subst (InTurn always count 0 0) same t.0, ap (λ vs. length (all_met vs (0 ∷ []))) (sym all) ∙ t.1 ∙ ap (λ vs. suc (after_all always 0 0 vs)) same)

  pub well_numbered : n < 2 ^ 32 → WellNumbered S (content_of S g n)
  well_numbered few = record {
    few_objects = omega (arith, objects_count S g n w.within, order_most S g n w.within);
    few_roots = omega (arith, roots_length, count_most g);
    roots = roots_from_turn (length roots) count 0 0 roots roots_turn.0 (omega arith) last;
    objects =
        subst (λ m. Ordered S count 1 m (content_of S g n).objects) (sym (root_after (length roots) 0 0 roots))
        (walk_ordered n 1 (after_all always 0 0 roots) (first S g n w.within) behind_nil (omega (arith, order_most S g n w.within)) roots_turn.1 (omega arith));
  }
    where
      last : (k : ℕ) → length roots ≡ suc k → get_or roots k 0 ≡ 0 → ⊥
      last k e z =
          let c : root_count g ≡ suc k = sym roots_length ∙ e in
          count_last g k c (nil_from_number (g.root k) (root_in S g n w.within k) (sym (saved_root k (omega arith)) ∙ z))
