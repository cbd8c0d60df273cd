-- A work list that is long enough gives the content of the graph, whatever its length; one that is too short is told by the
-- content of the graph.
use Rattle.std.proofs.Common.{◌≡◌, ℕ, zero, suc, ◌-◌, ◌≤◌, min, List, [], ◌∷◌, length, drop, sym, refl, ap, ◌∙◌, inl, inr, arith, length-drop}
use Rattle.std.proofs.lemmas.Bool.{cases_lt}
use Rattle.std.proofs.lemmas.List.{length-map}
use Rattle.layout.specs.Shape.{Shape}
use Rattle.model.specs.Graph.{Graph}
use Rattle.canonical.specs.Walk.{all_met, walked}
use Rattle.canonical.specs.Saving.{referred, roots_of, order, number, object_of, content_of, Within}
use Rattle.canonical.proofs.Places.{longer}
use Rattle.canonical.proofs.Walking.{next, walked_begins, walked_same}
use Rattle.canonical.proofs.Reached.{order_most}
use Rattle.saving.specs.Saved.{saved}
use Rattle.saving.proofs.Ends.{content_from_order, list_short, list_enough}

-- more steps give no fewer values
more_steps : (to : ℕ → List ℕ) → to 0 ≡ [] → (f e k : ℕ) (ws : List ℕ) → f ≤ e → length (walked to f k ws) ≤ length (walked to e k ws)
more_steps to nothing zero e k ws l = longer (walked_begins to nothing e k ws)
more_steps to nothing (suc f) zero k ws l = absurd (omega arith)
more_steps to nothing (suc f) (suc e) k ws l = more_steps to nothing f e (suc k) (next to nothing k ws) (omega arith)

module _ (S : Shape) (g : Graph) where
  objects_count : (n : ℕ) → length (content_of S g n).objects ≡ length (order S g n) - 1
  objects_count n = length-map (drop 1 (order S g n)) (object_of S g (number S g n)) ∙ length-drop 1 (order S g n)

  pub saved_within : (most n m : ℕ) (out : List ℕ) → Within S g most → m ≡ min n most → saved S (content_of S g m) m out ≡ saved S (content_of S g most) n out
  saved_within most n m out w e = elim (cases_lt (suc m) (length (order S g m))) [
    | inl l ↦
        (let up : length (order S g m) ≤ length (order S g most) = more_steps (referred S g) refl (suc m) (suc most) 0 (all_met (roots_of g) (0 ∷ [])) (omega arith) in
        list_short S (content_of S g m) out m (omega (arith, objects_count m))
        ∙ sym (list_short S (content_of S g most) out n (omega (arith, objects_count most, order_most S g most w))))
    | inr l ↦
        (let same : order S g m ≡ order S g most =
        walked_same (referred S g) refl (suc m) (suc most) 0 (all_met (roots_of g) (0 ∷ [])) (omega arith) (omega (arith, order_most S g most w)) in
        let content : content_of S g m ≡ content_of S g most = content_from_order S g m most same in
        ap (λ c. saved S c m out) content
        ∙ list_enough S (content_of S g most) out m (omega (arith, objects_count most, ap length same))
        ∙ sym (list_enough S (content_of S g most) out n (omega (arith, objects_count most, ap length same))))
  ]
