-- A marking that just began: the snapshot is the heap that never collects as it stands, what the roots hold is marked and
-- pending, and nothing is scanned.
use Rattle.std.proofs.Common.{◌≡◌, ℕ, suc, ◌≤◌, true, [], length, sym, refl, ap, ◌∙◌, subst, inl, inr, arith}
use Rattle.image.specs.Content.{Content}
use Rattle.heap.specs.Effects.{graph_of as heap_graph}
use Rattle.heap.specs.Steps.{Begun}
use Rattle.layout.specs.Shape.{Shape}
use Rattle.memory.specs.State.{State}
use Rattle.memory.specs.Edits.{reference_to}
use Rattle.model.specs.Edits.{held, object_at, word_at, graph_of as model_graph}
use Rattle.model.specs.Graph.{by_root, by_field}
use Rattle.model.proofs.Changes.{Matched, nil, object}
use Rattle.model.proofs.Holding.{field_matched}
use Rattle.std.proofs.lemmas.List.{get_or_past}
use Rattle.std.proofs.lemmas.Bool.{both_ways, cases_Bool, false≢true}
use Rattle.life.specs.Snapshot.{Reached, Known}
use Rattle.life.proofs.Agree.{Agree, At, none, some, at_root, number_below, reference_is}
use Rattle.life.proofs.Facts.{Underway, Unscanned, Facts, FactsIn}

-- a number that is no object has no word
pub past_word : (m : Content) (o i : ℕ) → length m.objects ≤ o → word_at (object_at m.objects o) i ≡ 0
past_word m o i l = ap (λ x. word_at x i) (get_or_past m.objects o (record { header = 0; body = [] }) l)

module _ {S : Shape} {s t : State} {m : Content} {ν : ℕ → ℕ} (a : Agree S s m ν) (x : Begun s t) (b : Agree S t m ν) where
  -- what is marked is what a root holds
  marked_reached : (p : ℕ) → t.marks.marked p ≡ true → Reached S m (ν p)
  marked_reached p k =
      let w = x.only p k in
      let st = a.sound.rooted w.0 p w.1 in
      by_root w.0 (a.tied.root_same w.0 p (ap reference_to w.1 ∙ reference_is a.sound p st))

  root-marked : (k p : ℕ) → t.starts p ≡ true → held m k ≡ suc (ν p) → t.marks.marked p ≡ true
  root-marked k p st e = go (at_root a k)
    where
      go : At s m ν k → t.marks.marked p ≡ true
      go (none d z) = absurd (omega arith)
      go (some q d sq z) =
          let n : ν q ≡ ν p = omega arith in
          let st' : s.starts p ≡ true = subst (λ f. f p ≡ true) x.same.starts st in
          subst (λ k. t.marks.marked k ≡ true) (a.tied.distinct q p sq st' n) (x.held k q d)

  -- a reference of a reached object names in the heap what it names in the other
  named-same : (q : ℕ) → t.starts q ≡ true → {v u : ℕ} → Matched S (heap_graph t) (model_graph m) ν v u → u ≡ suc (ν q) → v ≡ suc q
  named-same q tq nil e = absurd (omega arith)
  named-same q tq (object o n r) e = let z : ν o ≡ ν q = omega arith in ap suc (b.tied.distinct o q n tq z)

  unscanned : (p : ℕ) → Unscanned t p
  unscanned p = elim (cases_Bool (t.marks.marked p)) [ inl y ↦ inr (x.pending p ∙ y) | inr y ↦ inl y ]

  closed : (o i n : ℕ) → Known S m o → S.reference (object_at m.objects o).header i ≡ true → word_at (object_at m.objects o) i ≡ suc n → Known S m n
  closed o i n (inl r) f e = inl (by_field i r f e)
  closed o i n (inr l) f e = absurd (omega (arith, past_word m o i l))

  underway_begin : Underway S t m ν m []
  underway_begin = record {
    stands = record {
      whole = a.whole;
      grown = omega arith;
      heads = λ n l. refl;
      roots = λ k n e. inl (by_root k e);
      fields = closed;
      there = λ n r. b.tied.found n r;
      made = λ p st l. absurd (omega (arith, number_below b p st));
      known = λ p k. inl (marked_reached p k);
    };
    waiting = λ p w. marked_reached p (sym (x.pending p) ∙ w);
    rooted = root-marked;
    kept = λ p i q st r f tq e. inr (unscanned p, named-same q tq (field_matched b.tied p i st r f) e);
    single = tt;
    listed = λ p st r k w. absurd (both_ways _ w (x.pending p ∙ k));
    scanned = λ p st i. absurd (false≢true i);
    found = λ n i. absurd (false≢true i);
  }

  pub facts_begin : Facts S t m ν m []
  facts_begin = subst (λ y. FactsIn S t m ν m [] y) (sym x.phase) underway_begin
