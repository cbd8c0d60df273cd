-- A word inside an object, after its header, is written. No header changes, so objects start where they did and have the
-- sizes that they had, and no other word of an object changes. The heap stays sound if what is written at a reference is nil
-- or names an object, and the object's card is dirty where that object is in another region.
use Rattle.std.proofs.Common.{◌≡◌, ℕ, suc, ◌+◌, ◌*◌, ◌/◌, ◌<◌, ◌≤◌, min, Bool, true, false, ◌⊎◌, sym, refl, ap, ◌∙◌, ap₂, inl, inr, arith, length-set}
use Rattle.layout.specs.Shape.{Shape, Lawful}
use Rattle.memory.specs.State.{State, word_in, with_word, with_cards}
use Rattle.std.proofs.lemmas.List.{get_or-set_same, get_or-set_other}
use Rattle.std.proofs.lemmas.Bool.{cases_eq}
use Rattle.tables.specs.Regions.{is_free_at}
use Rattle.heap.specs.Sound.{Sound, size_at, scanned}
use Rattle.heap.specs.Effects.{Outside, Wrote}
use Rattle.heap.proofs.Appending.{tiles_resize}
use Rattle.heap.proofs.Totals.{held_ext}
use Rattle.heap.proofs.Geometry.{words_within, long_enough, not_inside, no_overlap, in_use}
use Rattle.heap.proofs.Weights.{scanned-starts}

-- the word at position i of the object at p becomes w, and the dirty cards become those of `dirty`
module _ {S : Shape} (law : Lawful S) {s : State} (h : Sound S s) (p i w : ℕ) (dirty : ℕ → Bool)
    (object : s.starts p ≡ true) (after : 1 ≤ i) (within : i < size_at S s p) where
  abbrev written : State
  written = with_cards (with_word s (p + i) w) (record { dirty = dirty; table = s.cards.table })

  -- no object has its header there
  pub no_header : (q : ℕ) → s.starts q ≡ true → q ≡ p + i → ⊥
  no_header q e z = let x : s.starts (p + i) ≡ true = ap s.starts (sym z) ∙ e in let y = not_inside h p i object after within in grind arith

  pub header-same : (q : ℕ) → s.starts q ≡ true → word_in written q ≡ word_in s q
  header-same q e = get_or-set_other s.words (p + i) q w 0 (no_header q e)

  pub size_same : (q : ℕ) → s.starts q ≡ true → size_at S written q ≡ size_at S s q
  size_same q e = ap S.size (header-same q e)

  pub word-there : word_in written (p + i) ≡ w
  word-there = get_or-set_same s.words (p + i) w 0 (omega (arith, words_within h p i object within, long_enough h))

  pub word_elsewhere : (k : ℕ) → (k ≡ p + i → ⊥) → word_in written k ≡ word_in s k
  word_elsewhere k d = get_or-set_other s.words (p + i) k w 0 d

  reference-same : (q j : ℕ) → s.starts q ≡ true → S.reference (word_in written q) j ≡ true → S.reference (word_in s q) j ≡ true
  reference-same q j e f = ap (λ x. S.reference x j) (sym (header-same q e)) ∙ f

  -- what a reference names after: what it named, or, at the place that is written, what w names
  named-after : (q j o : ℕ) → s.starts q ≡ true → S.reference (word_in s q) j ≡ true → word_in written (q + j) ≡ suc o
      → (word_in s (q + j) ≡ suc o) ⊎ ((q ≡ p) × (S.reference (word_in s p) i ≡ true) × (w ≡ suc o))
  named-after q j o e f z = elim (cases_eq (q + j) (p + i)) [
    | inl y ↦
        let same = no_overlap h q j p i e (law.inside (word_in s q) j f).1 object within y in
        inr (same.0, sym (ap₂ (λ a b. S.reference (word_in s a) b) same.0 same.1) ∙ f, sym word-there ∙ sym (ap (word_in written) y) ∙ z)
    | inr y ↦ inl (sym (word_elsewhere (q + j) y) ∙ z)
  ]

  -- w, if it is a reference, names an object, and one of another region only with a dirty card
  module _ (names : S.reference (word_in s p) i ≡ true → (q : ℕ) → w ≡ suc q → s.starts q ≡ true)
      (carded : S.reference (word_in s p) i ≡ true → (q : ℕ) → w ≡ suc q → (p / 1024 ≡ q / 1024 → ⊥) → dirty (p / 64) ≡ true)
      (kept : (d : ℕ) → s.cards.dirty d ≡ true → dirty d ≡ true)
      (only : (d : ℕ) → (d ≡ p / 64 → ⊥) → dirty d ≡ s.cards.dirty d) where
    -- the card of an object is in a region in use
    clean-there : (g d : ℕ) → is_free_at s.regions.entries g ≡ true → d / 16 ≡ g → dirty d ≡ false
    clean-there g d f e = only d used ∙ (h.vacant g f).clean d e
      where
        used : d ≡ p / 64 → ⊥
        used z =
            let x : p / 1024 ≡ g = omega arith in
            let y : is_free_at s.regions.entries g ≡ false = ap (is_free_at s.regions.entries) (sym x) ∙ in_use h p object in
            grind arith

    pub written_sound : Sound S written
    written_sound =
        record {
          rooms = h.rooms;
          entries = h.entries;
          whole = h.whole ∙ ap (λ n. min (n / 1024) 32) (sym (length-set s.words (p + i) w));
          tiled = λ g. tiles_resize (h.tiled g) size_same;
          headed = λ q e. ap S.legal (header-same q e) ∙ h.headed q e;
          rooted = h.rooted;
          linked = λ q j o e f z. elim (named-after q j o e (reference-same q j e f) z) [
            | inl u ↦ h.linked q j o e (reference-same q j e f) u
            | inr u ↦ names u.1 o u.2
          ];
          spared = h.spared;
          vacant = λ g e.
              let v = h.vacant g e in
              record { unused = v.unused; lifeless = v.lifeless; forgetful = v.forgetful; clean = λ d z. clean-there g d e z; forgotten = v.forgotten };
          used = h.used;
          opened = h.opened;
          latest = h.latest;
          carded = λ q j o e f z far. elim (named-after q j o e (reference-same q j e f) z) [
            | inl u ↦ elim (h.carded q j o e (reference-same q j e f) u far) [ inl d ↦ inl (kept (q / 64) d) | inr d ↦ inr d ]
            | inr u ↦ inl (ap (λ k. dirty (k / 64)) u.0 ∙ carded u.1 o u.2 (λ y. far (ap (λ k. k / 1024) u.0 ∙ y)))
          ];
          marked = h.marked;
          awaited = h.awaited;
          settled = h.settled;
          unmarked = h.unmarked;
          weights = h.weights;
          tallied = λ e g.
              h.tallied e g ∙
              sym (held_ext (scanned s) (size_at S written) (size_at S s) (1024 * g) 1024 (λ q m. size_same q (scanned-starts h q m)));
          living = h.living;
          weighed = λ e g.
              h.weighed e g ∙
              sym (held_ext s.marks.marked (size_at S written) (size_at S s) (1024 * g) 1024 (λ q m. size_same q (h.marked q m)));
        }

  pub written_wrote : Wrote S s written p i w
  written_wrote =
      record {
        starts = λ q. refl;
        there = word-there;
        others = λ q j e l d. word_elsewhere (q + j) (λ z. let same = no_overlap h q j p i e l object within z in d same.0 same.1);
        roots = refl;
      }

  pub written_outside : Outside s written
  written_outside = record { words = λ k l. word_elsewhere k (λ z. omega (arith, words_within h p i object within)); spare = refl; count = refl }
