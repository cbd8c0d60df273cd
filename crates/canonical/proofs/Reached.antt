-- The values of a graph, in order: nil and what the roots reach, each once. What stands there is reached, since what is
-- met is a root or a reference of what was met; what is reached stands there, since the walk goes through the whole list.
use Rattle.std.proofs.Common.{◌≡◌, ℕ, zero, suc, ◌-◌, ◌≤◌, true, List, [], ◌∷◌, length, drop, sym, refl, ap, ◌∙◌, subst, inl, inr, arith, length-drop}
use Rattle.std.specs.List.{AllByRecursion as Each}
use Rattle.std.proofs.lemmas.Bool.{cases_lt}
use Rattle.std.proofs.lemmas.List.{length-map, get_or_default}
use Rattle.std.proofs.lemmas.List.FromFn.{get_or-map-range_with_len}
use Rattle.layout.specs.Shape.{Shape, Lawful}
use Rattle.model.specs.Graph.{Graph, Reach}
use Rattle.model.specs.Graph.Reach.{by_root, by_field}
use Rattle.canonical.specs.Walk.{place_of, met, all_met, walked}
use Rattle.canonical.specs.Saving.{referred, root_count, roots_of, order, number, object_of, content_of, Within}
use Rattle.canonical.specs.Reaching.{EachReachedOnce}
use Rattle.canonical.proofs.Places.{In, at_place, in_from_place, Begins, begins_more, all_met_begins, place-kept, at_kept, in_kept}
use Rattle.canonical.proofs.Walking.{each_at, each_weaker, all_met_in, all_met_keeps, met_each, Single, nil_single, met_single, Distinct, nil_distinct, met_distinct, walked_begins, walked_closed, walked_keeps}
use Rattle.canonical.proofs.Roots.{count_past}
use Rattle.canonical.proofs.Words.{each_value, each_reference, reference_at}

-- a value is nil, or refers to what the roots reach
abbrev pub Reached : Shape → Graph → ℕ → Type 0
Reached S g zero = Unit {0}
Reached S g (suc o) = Reach S g o

module _ (S : Shape) (g : Graph) (n : ℕ) (w : Within S g n) where
  -- what holds of each value in the list
  abbrev pub Good : ℕ → Type 0
  Good v = (v ≤ n) × Reached S g v

  pub good_nil : Good 0
  good_nil = (omega arith, tt)

  good_root : (k : ℕ) → Good (g.root k)
  good_root k = (w.roots k, by (g.root k) refl)
    where
      by : (v : ℕ) → g.root k ≡ v → Reached S g v
      by zero e = tt
      by (suc o) e = by_root k e

  good_field : (o i : ℕ) → Reach S g o → S.reference (g.head o) i ≡ true → Good (g.field o i)
  good_field o i r e = (w.references o i r e, by (g.field o i) refl)
    where
      by : (v : ℕ) → g.field o i ≡ v → Reached S g v
      by zero f = tt
      by (suc p) f = by_field i r e f

  good_roots : Each Good (roots_of g)
  good_roots = each_value Good g.root good_root 0 (root_count g)

  good_referred : (v : ℕ) → Good v → Each Good (referred S g v)
  good_referred zero h = tt
  good_referred (suc o) h = each_reference Good (S.reference (g.head o)) (g.field o) (λ i e. good_field o i h.1 e) 1 (S.size (g.head o) - 1)

  -- the list before the walk: nil and what the roots hold
  abbrev pub first : List ℕ
  first = all_met (roots_of g) (0 ∷ [])

  -- no value stands twice
  abbrev Once : List ℕ → Type 0
  Once ws = Single n ws × Distinct ws

  -- both hold after any number of steps
  pub good_walked : (f : ℕ) → Each Good (walked (referred S g) f 0 first) × Once (walked (referred S g) f 0 first)
  good_walked f =
      walked_keeps (referred S g) refl Good Once once good_nil good_referred f 0 first
      (all_met_keeps Good (Each Good) (met_each Good) (roots_of g) (0 ∷ []) good_roots (good_nil, tt))
      (all_met_keeps Good Once once (roots_of g) (0 ∷ []) good_roots (nil_single n, nil_distinct))
    where
      once : (v : ℕ) (ws : List ℕ) → Good v → Once ws → Once (met v ws)
      once v ws h o = (met_single n v ws h.0 o.0, met_distinct v ws o.1)

  pub order_good : Each Good (order S g n)
  order_good = (good_walked (suc n)).0

  pub order_single : Single n (order S g n)
  order_single = (good_walked (suc n)).1.0

  pub order_distinct : Distinct (order S g n)
  order_distinct = (good_walked (suc n)).1.1

  pub in_good : (v : ℕ) → In (order S g n) v → Good v
  in_good v h = subst Good (at_place v (order S g n) h) (each_at Good (order S g n) (place_of v (order S g n)) good_nil order_good)

  pub order_most : length (order S g n) ≤ suc n
  order_most = omega (arith, order_single)

  pub first_begins : Begins first (order S g n)
  first_begins = walked_begins (referred S g) refl (suc n) 0 first

  pub nil_begins : Begins (0 ∷ []) (order S g n)
  nil_begins = begins_more (all_met_begins (roots_of g) (0 ∷ [])) first_begins

  pub nil_in : In (order S g n) 0
  nil_in = in_kept nil_begins 0 (omega arith)

  pub nil_number : number S g n 0 ≡ 0
  nil_number = place-kept nil_begins 0 (omega arith)

  pub roots_in : Each (In (order S g n)) (roots_of g)
  roots_in = each_weaker (in_kept first_begins) (roots_of g) (all_met_in (roots_of g) (0 ∷ []))

  -- what a value in the order refers to stands there too
  pub referred_in : (v : ℕ) → In (order S g n) v → Each (In (order S g n)) (referred S g v)
  referred_in v h =
      subst (λ u. Each (In (order S g n)) (referred S g u)) (at_place v (order S g n) h)
      (walked_closed (referred S g) refl (suc n) 0 first (place_of v (order S g n)) (omega (arith, order_most)) (omega arith) h)

  -- past the roots that are saved is nil
  pub root_past : (k : ℕ) → root_count g ≤ k → g.root k ≡ 0
  root_past k l = elim (cases_lt k 64) [ inl b ↦ count_past g k l b | inr b ↦ w.past k b ]

  pub root_in : (k : ℕ) → In (order S g n) (g.root k)
  root_in k = elim (cases_lt k (root_count g)) [
    | inl l ↦
        subst (In (order S g n)) (get_or-map-range_with_len g.root 0 (root_count g) k k 0 l (omega arith))
        (each_at (In (order S g n)) (roots_of g) k nil_in roots_in)
    | inr l ↦ subst (In (order S g n)) (sym (root_past k l)) nil_in
  ]

  pub field_in : Lawful S → (o i : ℕ) → In (order S g n) (suc o) → S.reference (g.head o) i ≡ true → In (order S g n) (g.field o i)
  field_in law o i h e =
      let b = law.inside (g.head o) i e in
      reference_at (In (order S g n)) (S.reference (g.head o)) (g.field o) 1 (S.size (g.head o) - 1) i (referred_in (suc o) h) e b.0 (omega (arith, b.1))

  pub reached_in : Lawful S → (o : ℕ) → Reach S g o → In (order S g n) (suc o)
  reached_in law o (by_root k e) = subst (In (order S g n)) e (root_in k)
  reached_in law o (by_field {o = p} i r s e) = subst (In (order S g n)) e (field_in law p i (reached_in law p r) s)

  -- every value in the order but nil has an object
  pub objects_count : suc (length (content_of S g n).objects) ≡ length (order S g n)
  objects_count = omega (arith, length-map (drop 1 (order S g n)) (object_of S g (number S g n)), length-drop 1 (order S g n), nil_in)

pub each_reached_once : (S : Shape) → Lawful S → EachReachedOnce S
each_reached_once S law g n w = record {
  nil = at_kept (nil_begins S g n w) 0 (omega arith);
  count = objects_count S g n w;
  reached = λ o. (
    λ c. (in_good S g n w (suc o) (in_from_place (suc o) (order S g n) c.0 (suc o) c.1 c.2)).1,
    λ r.
        let h : In (order S g n) (suc o) = reached_in S g n w law o r in
        (number S g n (suc o), h, get_or_default (order S g n) (number S g n (suc o)) (suc o) 0 h ∙ at_place (suc o) (order S g n) h),
  );
  once = λ i j li lj e. sym (order_distinct S g n w i li) ∙ ap (number S g n) e ∙ order_distinct S g n w j lj;
}
