-- What the roots of a sound heap reach are objects, and a reference to one is at most the number of places. So the graph of the
-- heap is what is asked of one that is saved. That words have 32 bits is no matter of soundness.
use Rattle.std.proofs.Common.{◌≡◌, ℕ, zero, suc, ◌+◌, ◌^◌, ◌<◌, ◌≤◌, true, Some, None, Option, refl, ap, subst, arith}
use Rattle.std.proofs.lemmas.List.{get_or_past}
use Rattle.layout.specs.Shape.{Shape}
use Rattle.model.specs.Graph.{Reach}
use Rattle.model.specs.Graph.Reach.{by_root, by_field}
use Rattle.memory.specs.State.{State, word_in, root_in}
use Rattle.memory.specs.Edits.{reference_to}
use Rattle.canonical.specs.Saving.{Within, Whole}
use Rattle.heap.specs.Sound.{Sound}
use Rattle.heap.specs.Effects.{graph_of}
use Rattle.heap.specs.Images.{places}
use Rattle.heap.proofs.Geometry.{place_below}

pub places_are : places ≡ 32768
unfolding places
places_are = refl

module _ {S : Shape} {s : State} (h : Sound S s) where
  root_below : (k : ℕ) → reference_to (root_in s k) ≤ places
  root_below k = by (root_in s k) refl
    where
      by : (v : Option ℕ) → root_in s k ≡ v → reference_to v ≤ places
      by None e = omega (arith, places_are)
      by (Some p) e = omega (arith, places_are, place_below h p (h.rooted k p e))

  root_object : (k o : ℕ) → reference_to (root_in s k) ≡ suc o → s.starts o ≡ true
  root_object k o = by (root_in s k) refl
    where
      by : (v : Option ℕ) → root_in s k ≡ v → reference_to v ≡ suc o → s.starts o ≡ true
      by None e f = absurd (omega arith)
      by (Some p) e f =
          let there : s.starts p ≡ true = h.rooted k p e in
          let same : p ≡ o = omega (arith, place_below h p there) in
          subst (λ q. s.starts q ≡ true) same there

  pub reached_object : (o : ℕ) → Reach S (graph_of s) o → s.starts o ≡ true
  reached_object o (by_root k e) = root_object k o e
  reached_object o (by_field {o = q} i r e f) = h.linked q i o (reached_object q r) e f

  reference_below : (o i : ℕ) → s.starts o ≡ true → S.reference (word_in s o) i ≡ true → word_in s (o + i) ≤ places
  reference_below o i there e = by (word_in s (o + i)) refl
    where
      by : (v : ℕ) → word_in s (o + i) ≡ v → v ≤ places
      by zero f = omega (arith, places_are)
      by (suc q) f = omega (arith, places_are, place_below h q (h.linked o i q there e f))

  pub within : Within S (graph_of s) places
  within = record {
    roots = root_below;
    past = λ k l. ap reference_to (get_or_past s.roots k None (omega (arith, h.rooms)));
    references = λ o i r e. reference_below o i (reached_object o r) e;
  }

  -- with words of 32 bits, all that is asked
  pub whole : ((k : ℕ) → word_in s k < 2 ^ 32) → Whole S (graph_of s) places
  whole narrow = record {
    within = within;
    legal = λ o r. h.headed o (reached_object o r);
    heads = λ o r. narrow o;
    plains = λ o i r e. narrow (o + i);
  }
