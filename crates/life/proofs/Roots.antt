-- get, copy and clear make a root hold what a reference or a root of both holds, or nil: the two go on agreeing.
use Rattle.std.proofs.Common.{◌≡◌, ℕ, zero, suc, ◌+◌, ◌-◌, ◌<◌, Bool, true, false, cond, ◌&&◌, eqb, ltb, length, get_or, Some, None, Ok, Result, Option, sym, refl, ap, ◌∙◌, subst, inl, inr, arith}
use Rattle.image.specs.Content.{Content}
use Rattle.heap.specs.Effects.{graph_of as heap_graph, Held, Gets, Copies, Clears}
use Rattle.heap.specs.Sound.{Sound}
use Rattle.heap.proofs.Keeps.{Keeps}
use Rattle.layout.specs.Shape.{Shape, Lawful}
use Rattle.memory.specs.State.{State, word_in, root_in, with_root as with_heap_root}
use Rattle.memory.specs.Edits.{reference_to, named_by, get_reference, copy_root, clear_root}
use Rattle.model.specs.Edits.{held, object_at, numbered, word_at, with_root, get_reference as model_get, copy, clear, graph_of as model_graph}
use Rattle.model.specs.declared.edits.Refusal.{Refusal}
use Rattle.model.proofs.Changes.{hold, Matched, nil}
use Rattle.model.proofs.Contents.{root_equal, root-whole, set_tells}
use Rattle.model.proofs.Holding.{root_matched, field_matched, tied_hold}
use Rattle.model.proofs.Views.{Looks, tied_looks, tied_equal}
use Rattle.std.proofs.lemmas.Bool.{cases_Bool, cond-true, cond-false, eq-eqb, ne_eqb, ltb-true, and_parts}
use Rattle.life.proofs.Agree.{Agree, object_is, reached, reference_is}
use Rattle.life.proofs.InBoth.{GetInBoth, no, yes, get_in_both}
use Rattle.life.proofs.Words.{Alike, alike}

-- a reference that is nil or names an object is that of what it names
pub named-reference : {S : Shape} {s : State} → Sound S s → (w : ℕ) → ((q : ℕ) → w ≡ suc q → s.starts q ≡ true) → reference_to (named_by w) ≡ w
named-reference {S} {s} h zero ok = ap reference_to (cond-true (eqb 0 0) None (Some (0 - 1)) (eq-eqb 0 0 refl))
named-reference {S} {s} h (suc q) ok =
    let e : suc q - 1 ≡ q = omega arith in
    ap reference_to (cond-false (eqb (suc q) 0) None (Some (suc q - 1)) (ne_eqb (suc q) 0 (λ z. omega arith)) ∙ ap Some e) ∙ reference_is h q (ok q refl)

pub held_looks : {S : Shape} {s t : State} {k : ℕ} {v : Option ℕ} → Sound S s → k < 64 → Held s t k v → Looks S (hold (heap_graph s) k (reference_to v)) (heap_graph t)
held_looks {S} {s} {t} {k} {v} h l x = record {
  node = λ p. ap (λ f. f p) x.starts;
  head = λ p n. ap (λ ws. get_or ws p 0) x.words;
  field = λ p i n o u. ap (λ ws. get_or ws (p + i) 0) x.words;
  root = λ j. ap (λ rs. reference_to (get_or rs j None)) x.roots ∙ ap reference_to (set_tells s.roots k v j None (omega (arith, h.rooms))) ∙ out (eqb j k) (get_or s.roots j None);
}
  where
    out : (b : Bool) (o : Option ℕ) → reference_to (cond b v o) ≡ cond b (reference_to v) (reference_to o)
    out true o = refl
    out false o = refl

module _ {S : Shape} (law : Lawful S) {s : State} {m : Content} {ν : ℕ → ℕ} (a : Agree S s m ν) where
  -- root k takes over a reference that both have
  pub hold_agree : (t : State) (k u : ℕ) (v : Option ℕ) → k < 64 → Sound S t → Held s t k v → Matched S (heap_graph s) (model_graph m) ν (reference_to v) u → ((o : ℕ) → u ≡ suc o → o < length m.objects) → Agree S t (with_root m k u) ν
  hold_agree t k u v l sound x y ok = record {
    sound = sound;
    whole = root-whole a.whole k u l ok;
    tied = tied_looks law (tied_equal law (tied_hold a.tied k y) (root_equal a.whole k u l)) (held_looks a.sound l x);
  }

  pub copy_alike : (i k : ℕ) → Keeps S s (λ t r. Copies s t i k r) (copy_root s i k) → Alike S ν (copy_root s i k) (copy m i k)
  copy_alike i k keep = elim (cases_Bool (ltb i 64 && ltb k 64)) [
    | inr e ↦ alike (cond-false _ _ _ e) (cond-false _ _ _ e) (refl, a)
    | inl e ↦ (let E = cond-true _ _ _ e in alike E (cond-true _ _ _ e) (refl, go e (subst (Keeps S s (λ t r. Copies s t i k r)) E keep)))
  ]
    where
      go : (ltb i 64 && ltb k 64) ≡ true → Keeps S s (λ t r. Copies s t i k r) (Ok tt, with_heap_root s k (root_in s i)) → Agree S (with_heap_root s k (root_in s i)) (with_root m k (held m i)) ν
      go e x =
          hold_agree (with_heap_root s k (root_in s i)) k (held m i) (root_in s i) (ltb-true k 64 (and_parts (ltb i 64) (ltb k 64) e).1) x.sound x.effect.0
          (root_matched a.tied i) (λ o z. ltb-true o _ (a.whole.closed.roots i o z))

  pub clear_alike : (i : ℕ) → Keeps S s (λ t r. Clears s t i r) (clear_root s i) → Alike S ν (clear_root s i) (clear m i)
  clear_alike i keep = elim (cases_Bool (ltb i 64)) [
    | inr e ↦ alike (cond-false _ _ _ e) (cond-false _ _ _ e) (refl, a)
    | inl e ↦ (let E = cond-true _ _ _ e in alike E (cond-true _ _ _ e) (refl, go e (subst (Keeps S s (λ t r. Clears s t i r)) E keep)))
  ]
    where
      go : ltb i 64 ≡ true → Keeps S s (λ t r. Clears s t i r) (Ok tt, with_heap_root s i None) → Agree S (with_heap_root s i None) (with_root m i 0) ν
      go e x = hold_agree (with_heap_root s i None) i 0 None (ltb-true i 64 e) x.sound x.effect.0 nil (λ o z. absurd (omega arith))

  pub get_alike : (i position k : ℕ) → Keeps S s (λ t r. Gets S s t i position k r) (get_reference S s i position k) → Alike S ν (get_reference S s i position k) (model_get S m i position k)
  get_alike i position k keep = go (get_in_both a i position k) keep
    where
      go : {x : Result (Unit {0}) Refusal × State} {y : Result (Unit {0}) Refusal × Content} → GetInBoth S s m ν i position k x y → Keeps S s (λ t r. Gets S s t i position k r) x → Alike S ν x y
      go (no why) x = (refl, a)
      go (yes p e n st z f) x = (refl, agree)
        where
          agree : Agree S (with_heap_root s k (named_by (word_in s (p + position)))) (with_root m k (word_at (numbered m (held m i)) position)) ν
          agree =
              let t = with_heap_root s k (named_by (word_in s (p + position))) in
              let u = word_at (object_at m.objects (ν p)) position in
              let o : Some x.effect.0 ≡ Some p = sym x.effect.1 ∙ n in
              let c : x.effect.0 ≡ p = cc in
              let y : Held s t k (named_by (word_in s (p + position))) = subst (λ q. Held s t k (named_by (word_in s (q + position)))) c x.effect.3 in
              let r : reference_to (named_by (word_in s (p + position))) ≡ word_in s (p + position) = named-reference a.sound (word_in s (p + position)) (λ q w. a.sound.linked p position q st f w) in
              let w : Matched S (heap_graph s) (model_graph m) ν (word_in s (p + position)) u = field_matched a.tied p position st (reached a i p z) f in
              subst (λ d. Agree S t (with_root m k (word_at d position)) ν) (sym (object_is m (held m i) (ν p) z))
              (hold_agree t k u (named_by (word_in s (p + position))) (ltb-true k 64 (and_parts (ltb i 64) (ltb k 64) e).1) x.sound y
              (subst (λ d. Matched S (heap_graph s) (model_graph m) ν d u) (sym r) w)
              (λ q d. ltb-true q _ (a.whole.closed.fields (ν p) position q (a.tied.numbered p st) (ap (λ h. S.reference h position) (sym (a.tied.heads p st)) ∙ f) d)))
