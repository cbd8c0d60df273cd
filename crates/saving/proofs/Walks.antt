-- How the walk over the entries of a work list goes as the definition does.
use Rattle.std.proofs.Common.{◌≡◌, ℕ, zero, suc, ◌+◌, ◌-◌, ◌<◌, ◌≤◌, None, List, [], ◌∷◌, length, map, take, drop, get_or, sym, refl, ap, ◌∙◌, inl, inr, arith}
use Rattle.std.specs.List.{fold, range_with_len}
use Rattle.std.proofs.lemmas.List.{drop_all, get_or_past, get_or-take, length-take}
use Rattle.std.proofs.lemmas.Bool.{cases_eq, cases_lt, cond-true, cond-false, eq-eqb, ne_eqb}
use Rattle.layout.specs.Shape.{Shape}
use Rattle.memory.specs.Edits.{reference_to}
use Rattle.memory.specs.Graph.{graph_in}
use Rattle.memory.specs.State.{State}
use Rattle.model.specs.Graph.{Graph}
use Rattle.canonical.specs.Walk.{all_met, walked}
use Rattle.canonical.specs.Saving.{referred, root_count, roots_of, order, used as used_roots}
use Rattle.canonical.proofs.Places.{all_met_begins, at_kept, longer}
use Rattle.canonical.proofs.Walking.{walked_begins, walked_past}
use Rattle.saving.specs.Numbering.{values}
use Rattle.saving.proofs.Turns.{taken_values, map_both}

used_within : (root : ℕ → ℕ) (n l : ℕ) → ((k : ℕ) → l ≤ k → root k ≡ 0) → used_roots root n ≤ l
used_within root zero l past = omega arith
used_within root (suc n) l past = elim (cases_eq (root n) 0) [
  | inl z ↦ omega (arith, used_within root n l past, cond-true _ (used_roots root n) (suc n) (eq-eqb (root n) 0 z))
  | inr d ↦ elim (cases_lt n l) [
    | inl b ↦ omega (arith, cond-false _ (used_roots root n) (suc n) (ne_eqb (root n) 0 d))
    | inr b ↦ absurd (d (past n b))
  ]
]

-- past the list of roots is nil
count_within : (s : State) → root_count (graph_in s) ≤ length s.roots
unfolding root_count
count_within s = used_within (graph_in s).root 64 (length s.roots) (λ k l. ap reference_to (get_or_past s.roots k None l))

-- the roots that are saved, as a list of what roots hold
module _ (s : State) (used : ℕ) (e : used ≡ root_count (graph_in s)) where
  pub roots_listed : map reference_to (take used s.roots) ≡ roots_of (graph_in s)
  roots_listed = taken_values reference_to s.roots None 0 used (omega (arith, count_within s)) ∙ ap (λ n. map (graph_in s).root (range_with_len 0 n)) e

  -- a fold over them is at its end
  pub roots_done : {B : Type 0} (f : B → ℕ → B) (number : ℕ → ℕ) (k : ℕ) (b a : B) → length (take used s.roots) ≤ k →
      fold f b (map (λ r. number (reference_to r)) (drop k (take used s.roots))) ≡ fold f a (map (λ r. number (reference_to r)) (take used s.roots)) →
      b ≡ fold f a (map number (roots_of (graph_in s)))
  roots_done f number k b a d h =
      ap (λ rs. fold f b (map (λ r. number (reference_to r)) rs)) (sym (drop_all k (take used s.roots) d)) ∙ h
      ∙ ap (fold f a) (map_both number reference_to (take used s.roots) ∙ ap (map number) roots_listed)

-- all 64 roots tell how many are saved
pub count_whole : (g : Graph) → used_roots g.root 64 ≡ root_count g
unfolding root_count
count_whole g = refl

module _ (S : Shape) (g : Graph) where
  abbrev first : List ℕ
  first = all_met (roots_of g) (0 ∷ [])

  -- nil refers to nothing, so the walk begins behind it
  order_begins : (n : ℕ) → order S g n ≡ walked (referred S g) n 1 first
  order_begins n = ap (λ v. walked (referred S g) n 1 (all_met (referred S g v) first)) (at_kept (all_met_begins (roots_of g) (0 ∷ [])) 0 (omega arith))

  pub walk_start : (n : ℕ) (ws : List ℕ) → ws ≡ first → walked (referred S g) (n - 0) 1 ws ≡ order S g n
  walk_start n ws e = let z : n - 0 ≡ n = omega arith in rw z (ap (walked (referred S g) n 1) e ∙ sym (order_begins n))

  pub start_over : (n : ℕ) → suc n < length first → suc n < length (order S g n)
  start_over n l = omega (arith, ap length (order_begins n), longer (walked_begins (referred S g) refl n 1 first))

  module _ (n k count : ℕ) (list : List ℕ) (kn : k < n) (kc : k < count) where
    next : walked (referred S g) (n - k) (suc k) (values list count) ≡ walked (referred S g) (n - (k + 1)) (suc (k + 1)) (all_met (referred S g (get_or list k 0)) (values list count))
    next =
        let m : n - k ≡ suc (n - (k + 1)) = omega arith in
        let j : suc (suc k) ≡ suc (k + 1) = omega arith in
        rw m (ap (λ v. walked (referred S g) (n - (k + 1)) (suc (suc k)) (all_met (referred S g v) (values list count))) (get_or-take count list k 0 kc)
        ∙ ap (λ i. walked (referred S g) (n - (k + 1)) i (all_met (referred S g (get_or list k 0)) (values list count))) j)

    -- one more entry is walked over
    pub walk_more : (us end : List ℕ) → us ≡ all_met (referred S g (get_or list k 0)) (values list count) →
        walked (referred S g) (n - k) (suc k) (values list count) ≡ end → walked (referred S g) (n - (k + 1)) (suc (k + 1)) us ≡ end
    walk_more us end e h = ap (walked (referred S g) (n - (k + 1)) (suc (k + 1))) e ∙ sym next ∙ h

    pub walk_over : (m : ℕ) (end : List ℕ) → m < length (all_met (referred S g (get_or list k 0)) (values list count)) →
        walked (referred S g) (n - k) (suc k) (values list count) ≡ end → m < length end
    walk_over m end l h =
        omega (arith, ap length (sym next ∙ h), longer (walked_begins (referred S g) refl (n - (k + 1)) (suc (k + 1)) (all_met (referred S g (get_or list k 0)) (values list count))))

  -- behind the last entry the walk is at its end
  pub walk_end : (n k count : ℕ) (list end : List ℕ) → count ≤ k →
      walked (referred S g) (n - k) (suc k) (values list count) ≡ end → values list count ≡ end
  walk_end n k count list end l h =
      sym (walked_past (referred S g) refl (n - k) (suc k) (values list count) (omega (arith, length-take count list))) ∙ h

-- the same as the code has it: a list keeps its length
module _ (S : Shape) (s : State) where
  abbrev graph : Graph
  graph = graph_in s

  pub began : (used n : ℕ) (ws : List ℕ) → used ≡ root_count graph →
      ws ≡ all_met (map reference_to (take used s.roots)) (0 ∷ []) → walked (referred S graph) (n - 0) 1 ws ≡ order S graph n
  began used n ws e h = walk_start S graph n ws (h ∙ ap (λ vs. all_met vs (0 ∷ [])) (roots_listed s used e))

  pub began_over : (used n m : ℕ) → used ≡ root_count graph → m ≡ n →
      suc m < length (all_met (map reference_to (take used s.roots)) (0 ∷ [])) → suc m < length (order S graph n)
  began_over used n m e q h =
      let first_is = ap (λ vs. length (all_met vs (0 ∷ []))) (roots_listed s used e) in
      let b : suc n < length (first S graph) = omega (arith, first_is) in
      omega (arith, start_over S graph n b)

module _ (S : Shape) (g : Graph) (n m k count : ℕ) (list : List ℕ) (kn : k < n) (kc : k < count) (q : m ≡ n)
    (goes : walked (referred S g) (n - k) (suc k) (values list count) ≡ order S g n) where
  pub goes_on : (us : List ℕ) → us ≡ all_met (referred S g (get_or list k 0)) (values list count) →
      walked (referred S g) (m - (k + 1)) (suc (k + 1)) us ≡ order S g m
  goes_on us e = rw q (walk_more S g n k count list kn kc us (order S g n) e goes)

  pub goes_over : (b : ℕ) → b < length (all_met (referred S g (get_or list k 0)) (values list count)) → b < length (order S g m)
  goes_over b h = rw q (walk_over S g n k count list kn kc b (order S g n) h goes)

pub goes_to : (S : Shape) (g : Graph) (n m k count : ℕ) (list : List ℕ) → m ≡ n → count ≤ k →
    walked (referred S g) (n - k) (suc k) (values list count) ≡ order S g n → values list count ≡ order S g m
goes_to S g n m k count list q l goes = rw q (walk_end S g n k count list (order S g n) l goes)
