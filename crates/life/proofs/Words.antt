-- set and put write a word into the object that a root holds, and into the object of its number: the two go on agreeing.
use Rattle.std.proofs.Common.{◌≡◌, ℕ, suc, ◌+◌, ◌<◌, ◌≤◌, true, cond, ◌&&◌, eqb, ◌⊎◌, length, get_or, Some, None, Result, sym, refl, ap, ◌∙◌, subst, inl, inr, arith}
use Rattle.image.specs.Content.{Content}
use Rattle.heap.specs.Effects.{graph_of as heap_graph, Wrote, Sets, Puts}
use Rattle.heap.specs.Sound.{Sound}
use Rattle.heap.proofs.Geometry.{some_word}
use Rattle.heap.proofs.Keeps.{Keeps}
use Rattle.layout.specs.Shape.{Shape, Lawful, plain}
use Rattle.memory.specs.State.{State, word_in, root_in, with_word as with_heap_word}
use Rattle.memory.specs.Edits.{reference_to, set_reference, storing, put_word}
use Rattle.model.specs.Edits.{held, object_at, with_word, set_reference as model_set, put_word as model_put, graph_of as model_graph}
use Rattle.model.specs.declared.edits.Refusal.{Refusal}
use Rattle.model.specs.Tied.{Tied}
use Rattle.model.proofs.Changes.{write, Matched}
use Rattle.model.proofs.Contents.{word_equal, word-whole}
use Rattle.model.proofs.Holding.{root_matched}
use Rattle.model.proofs.Views.{Looks, tied_looks, tied_equal, plain-inside}
use Rattle.model.proofs.Writing.{tied_reference, tied_plain, not_both}
use Rattle.std.proofs.lemmas.Bool.Decides.{nat_tests}
use Rattle.std.proofs.lemmas.Bool.{cases_eq, ltb-true}
use Rattle.life.proofs.Agree.{Agree, number_below}
use Rattle.life.proofs.InBoth.{SetInBoth, PutInBoth, no, yes, set_in_both, put_in_both}

-- what is shown of an edit that alters: the answers are the same, and the two agree after it
abbrev pub Alike : Shape → (ℕ → ℕ) → Result (Unit {0}) Refusal × State → Result (Unit {0}) Refusal × Content → Type 0
Alike S ν p q = (p.0 ≡ q.0) × Agree S p.1 q.1 ν

pub alike : {S : Shape} {ν : ℕ → ℕ} {p p' : Result (Unit {0}) Refusal × State} {q q' : Result (Unit {0}) Refusal × Content} → p' ≡ p → q' ≡ q → Alike S ν p q → Alike S ν p' q'
alike {S} {ν} {p} {p'} {q} {q'} e d x = subst (λ y. Alike S ν y q') (sym e) (subst (λ z. Alike S ν p z) (sym d) x)

-- the object at p is the same in a new state, but for the word at position i
pub wrote_looks : {S : Shape} {s t : State} {p i w : ℕ} → Sound S s → s.starts p ≡ true → 1 ≤ i → Wrote S s t p i w → Looks S (write (heap_graph s) p i w) (heap_graph t)
wrote_looks {S} {s} {t} {p} {i} {w} h st l x = record {
  node = x.starts;
  head = λ q n. head q n;
  field = λ q j n o u. field q j n u;
  root = λ k. ap (λ rs. reference_to (get_or rs k None)) x.roots;
}
  where
    head : (q : ℕ) → s.starts q ≡ true → word_in t q ≡ word_in s q
    head q n = let e : q + 0 ≡ q = omega arith in subst (λ k. word_in t k ≡ word_in s k) e (x.others q 0 n (some_word h q n) (λ a b. omega arith))

    field : (q j : ℕ) → s.starts q ≡ true → j < S.size (word_in s q) → word_in t (q + j) ≡ cond (eqb q p && eqb j i) w (word_in s (q + j))
    field q j n u = elim (cases_eq q p) [
      | inl a ↦ elim (cases_eq j i) [
        | inl b ↦ (let y : q + j ≡ p + i = omega arith in ap (word_in t) y ∙ x.there ∙ sym (on a b))
        | inr b ↦ x.others q j n u (λ c d. b d) ∙ sym (off (inr b))
      ]
      | inr a ↦ x.others q j n u (λ c d. a c) ∙ sym (off (inl a))
    ]
      where
        on : q ≡ p → j ≡ i → cond (eqb q p && eqb j i) w (word_in s (q + j)) ≡ w
        on a b = grind (arith, nat_tests)

        off : (q ≡ p → ⊥) ⊎ (j ≡ i → ⊥) → cond (eqb q p && eqb j i) w (word_in s (q + j)) ≡ word_in s (q + j)
        off d = grind (arith, nat_tests)

module _ {S : Shape} (law : Lawful S) {s : State} {m : Content} {ν : ℕ → ℕ} (a : Agree S s m ν) where
  -- the word at a position of both objects
  module _ (t : State) (p i w u : ℕ) (st : s.starts p ≡ true) (l : 1 ≤ i) (k : i < S.size (word_in s p)) (sound : Sound S t) (x : Wrote S s t p i w) where
    within : i < S.size (object_at m.objects (ν p)).header
    within = subst (λ h. i < S.size h) (a.tied.heads p st) k

    pub set_agree : S.reference (word_in s p) i ≡ true → Matched S (heap_graph s) (model_graph m) ν w u → ((q : ℕ) → u ≡ suc q → q < length m.objects) → Agree S t (with_word m (suc (ν p)) i u) ν
    set_agree f y ok = record {
      sound = sound;
      whole = word-whole a.whole (ν p) i u (number_below a p st) l within law (λ g. ok);
      tied = tied_looks law (tied_equal law (tied_reference a.tied p i st f y) (word_equal a.whole (ν p) i u (number_below a p st) l within)) (wrote_looks a.sound st l x);
    }

    pub put_agree : plain S (word_in s p) i ≡ true → w ≡ u → Agree S t (with_word m (suc (ν p)) i u) ν
    put_agree f e = record {
      sound = sound;
      whole = word-whole a.whole (ν p) i u (number_below a p st) l within law (λ g. absurd (not_both S (word_in s p) i f (subst (λ h. S.reference h i ≡ true) (sym (a.tied.heads p st)) g)));
      tied = tied_looks law (tied_equal law (subst (λ v. Tied S (write (heap_graph s) p i w) (write (model_graph m) (ν p) i v) ν) e (tied_plain a.tied p i st f w)) (word_equal a.whole (ν p) i u (number_below a p st) l within)) (wrote_looks a.sound st l x);
    }

  pub set_alike : (i position k : ℕ) → Keeps S s (λ t r. Sets S s t i position k r) (set_reference S s i position k) → Alike S ν (set_reference S s i position k) (model_set S m i position k)
  set_alike i position k keep = go (set_in_both a i position k) keep
    where
      named : (q : ℕ) → held m k ≡ suc q → q < length m.objects
      named q z = ltb-true q _ (a.whole.closed.roots k q z)

      go : {x : Result (Unit {0}) Refusal × State} {y : Result (Unit {0}) Refusal × Content} → SetInBoth S s m ν i position k x y → Keeps S s (λ t r. Sets S s t i position k r) x → Alike S ν x y
      go (no why) x = (refl, a)
      go (yes p e n st z f) x = (refl, agree)
        where
          agree : Agree S (storing s p position (reference_to (root_in s k))) (with_word m (held m i) position (held m k)) ν
          agree =
              let t = storing s p position (reference_to (root_in s k)) in
              let w = reference_to (root_in s k) in
              let o : Some x.effect.0 ≡ Some p = sym x.effect.1 ∙ n in
              let c : x.effect.0 ≡ p = cc in
              let b = law.inside (word_in s p) position f in
              let y : Wrote S s t p position w = subst (λ q. Wrote S s t q position w) c x.effect.3 in
              subst (λ v. Agree S t (with_word m v position (held m k)) ν) (sym z)
              (set_agree t p position w (held m k) st b.0 b.1 x.sound y f (root_matched a.tied k) named)

  pub put_alike : (i position word : ℕ) → Keeps S s (λ t r. Puts S s t i position word r) (put_word S s i position word) → Alike S ν (put_word S s i position word) (model_put S m i position word)
  put_alike i position word keep = go (put_in_both a i position word) keep
    where
      go : {x : Result (Unit {0}) Refusal × State} {y : Result (Unit {0}) Refusal × Content} → PutInBoth S s m ν i position word x y → Keeps S s (λ t r. Puts S s t i position word r) x → Alike S ν x y
      go (no why) x = (refl, a)
      go (yes p e n st z f) x = (refl, agree)
        where
          agree : Agree S (with_heap_word s (p + position) word) (with_word m (held m i) position word) ν
          agree =
              let t = with_heap_word s (p + position) word in
              let o : Some x.effect.0 ≡ Some p = sym x.effect.1 ∙ n in
              let c : x.effect.0 ≡ p = cc in
              let b = plain-inside S (word_in s p) position f in
              let y : Wrote S s t p position word = subst (λ q. Wrote S s t q position word) c x.effect.3 in
              subst (λ v. Agree S t (with_word m v position word) ν) (sym z)
              (put_agree t p position word word st b.0 b.1 x.sound y f refl)
