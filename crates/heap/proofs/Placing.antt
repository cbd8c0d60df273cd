-- A heap stays sound when an object is laid where there is room for it. Its words lie past the used words of its region, so no
-- word of another object changes; its body is zeros, so it has no reference yet.
use Rattle.std.proofs.Common.{◌≡◌, ℕ, suc, ◌+◌, ◌*◌, ◌/◌, ◌<◌, ◌≤◌, min, true, false, ◌⊎◌, length, sym, ap, ◌∙◌, subst, inl, inr, arith}
use mathlib.Core.Bool.{false≢true}
use Rattle.layout.specs.Shape.{Shape, Lawful}
use Rattle.memory.specs.State.{State, word_in, with_regions}
use Rattle.memory.specs.Objects.{laid}
use Rattle.std.proofs.lemmas.Bool.{cases_eq, cases_lt}
use Rattle.tables.specs.declared.regions.Regions.{Regions}
use Rattle.tables.specs.Regions.{region_at, is_free_at}
use Rattle.heap.specs.Tiles.{Tiles}
use Rattle.heap.specs.Sound.{Sound, region, size_at, scanned}
use Rattle.heap.proofs.Appending.{tiles_append, tiles_elsewhere, tiles_resize}
use Rattle.heap.proofs.Geometry.{fill_most, ends_in, some_word, few_regions, long_enough}
use Rattle.heap.proofs.Laying.{object-length, object_outside, object-head, object-body}
use Rattle.heap.proofs.Joined.{joined-put, joined_keeps, joined_is}
use Rattle.heap.proofs.Rooms.{Room}
use Rattle.heap.proofs.Totals.{held_ext}
use Rattle.heap.proofs.Weights.{scanned-starts}

module _ {S : Shape} (lw : Lawful S) {s : State} (d : Sound S s) (h : ℕ) (legal : S.legal h ≡ true) {r : Regions} {p : ℕ} (m : Room s r p (S.size h)) where
  abbrev t : State
  t = laid (with_regions s r) p h (S.size h)

  some_words : 1 ≤ S.size h
  some_words = lw.least h legal

  in_regions : p + S.size h ≤ 1024 * s.regions.count
  in_regions = omega (arith, m.place, m.fits, m.stored)

  in_words : p + S.size h ≤ length s.words
  in_words = omega (arith, in_regions, long_enough d)

  pub near : p < 32768
  near = omega (arith, in_regions, few_regions d, some_words)

  pub region_of : p / 1024 ≡ r.last
  region_of = omega (arith, m.place, m.fits, some_words)

  pub fresh : s.starts p ≡ false
  fresh = (d.tiled r.last).past p (omega (arith, m.place)) (omega (arith, m.place, m.fits, some_words))

  -- the words of an object are none of the new one's
  far : (q i : ℕ) → s.starts q ≡ true → i < size_at S s q → (q + i < p) ⊎ (p + S.size h ≤ q + i)
  far q i y l = elim (cases_eq (q / 1024) r.last) [
    | inl z ↦ inl (omega (arith, ends_in d q y, ap (λ g. (region s g).fill) z, m.place))
    | inr z ↦ elim (cases_lt (q / 1024) r.last) [
      | inl a ↦ inl (omega (arith, ends_in d q y, fill_most d (q / 1024), m.place))
      | inr a ↦ inr (omega (arith, m.place, m.fits))
    ]
  ]

  pub word_old : (q i : ℕ) → s.starts q ≡ true → i < size_at S s q → word_in t (q + i) ≡ word_in s (q + i)
  word_old q i y l = object_outside s.words p h (S.size h) some_words (q + i) (far q i y l)

  pub word_outside : (k : ℕ) → 1024 * s.regions.count ≤ k → word_in t k ≡ word_in s k
  word_outside k l = object_outside s.words p h (S.size h) some_words k (inr (omega (arith, in_regions)))

  head_old : (q : ℕ) → s.starts q ≡ true → word_in t q ≡ word_in s q
  head_old q y = let z : q + 0 ≡ q = omega arith in rw z at (word_old q 0 y (some_word d q y))

  pub head-new : word_in t p ≡ h
  head-new = object-head s.words p h (S.size h) some_words in_words

  pub word-new : (i : ℕ) → 1 ≤ i → i < S.size h → word_in t (p + i) ≡ 0
  word-new = object-body s.words p h (S.size h) some_words in_words

  -- what is true of the new object and of each that was there is true of each object then
  each : (P : ℕ → Type 0) → P p → ((q : ℕ) → s.starts q ≡ true → P q) → (q : ℕ) → t.starts q ≡ true → P q
  each P new old q y = elim (joined_is 32768 s.starts p q y) [ inl z ↦ subst P (sym z) new | inr z ↦ old q z ]

  keeps : (q : ℕ) → s.starts q ≡ true → t.starts q ≡ true
  keeps q y = joined_keeps 32768 s.starts p q near y

  -- what a reference holds it held before
  referred : (P : ℕ → ℕ → ℕ → Type 0)
      → ((q i v : ℕ) → s.starts q ≡ true → S.reference (word_in s q) i ≡ true → word_in s (q + i) ≡ suc v → P q i v)
      → (q i v : ℕ) → t.starts q ≡ true → S.reference (word_in t q) i ≡ true → word_in t (q + i) ≡ suc v → P q i v
  referred P old q i v y = each (λ q. S.reference (word_in t q) i ≡ true → word_in t (q + i) ≡ suc v → P q i v)
      (λ x e. let z = lw.inside h i (subst (λ w. S.reference w i ≡ true) head-new x) in absurd (omega (arith, word-new i z.0 z.1)))
      (λ q y x e.
      let z : S.reference (word_in s q) i ≡ true = subst (λ w. S.reference w i ≡ true) (head_old q y) x in
      old q i v y z (sym (word_old q i y (lw.inside (word_in s q) i z).1) ∙ e))
      q y

  tiles : (g : ℕ) → Tiles t.starts (size_at S t) (1024 * g) (region t g).fill
  tiles g =
      let old : Tiles s.starts (size_at S t) (1024 * g) (region s g).fill = tiles_resize (d.tiled g) (λ q y. ap S.size (head_old q y)) in
      subst (λ f. Tiles f (size_at S t) (1024 * g) (region t g).fill) (sym (joined-put 32768 s.starts p near)) (elim (cases_eq g r.last) [
        | inl z ↦
            let f : (region s g).fill ≡ (region s r.last).fill = ap (λ k. (region s k).fill) z in
            let e : (region t g).fill ≡ (region s g).fill + S.size h = ap (λ k. (region_at r.entries k).fill) z ∙ m.grown ∙ ap (λ k. k + S.size h) (sym f) in
            rw e (tiles_append old (S.size h) p (omega (arith, m.place)) (omega (arith, m.fits)) some_words (ap S.size head-new))
        | inr z ↦ rw (m.fills g z) (tiles_elsewhere old (fill_most d g) p (aside g z))
      ])
    where
      aside : (g : ℕ) → (g ≡ r.last → ⊥) → (p < 1024 * g) ⊎ (1024 * g + 1024 ≤ p)
      aside g ne = elim (cases_lt g r.last) [ inl a ↦ inr (omega (arith, m.place)) | inr a ↦ inl (omega (arith, m.place, m.fits, some_words)) ]

  pub laid_sound : Sound S t
  laid_sound =
      record {
        rooms = d.rooms;
        entries = m.entries;
        whole = m.count ∙ d.whole ∙ ap (λ k. min (k / 1024) 32) (sym (object-length s.words p h (S.size h)));
        tiled = tiles;
        headed = each (λ q. S.legal (word_in t q) ≡ true) (ap S.legal head-new ∙ legal) (λ q y. ap S.legal (head_old q y) ∙ d.headed q y);
        rooted = λ k q e. keeps q (d.rooted k q e);
        linked = referred (λ q i v. t.starts v ≡ true) (λ q i v y x e. keeps v (d.linked q i v y x e));
        spared = λ l. m.spared;
        vacant = λ g y. elim (cases_eq g r.last) [
          | inl z ↦ absurd (false≢true (sym (ap (is_free_at r.entries) z ∙ m.busy) ∙ y))
          | inr z ↦
              let v = d.vacant g (sym (m.frees g z) ∙ y) in
              record { unused = m.fills g z ∙ v.unused; lifeless = m.lives g ∙ v.lifeless; forgetful = v.forgetful; clean = v.clean; forgotten = v.forgotten }
        ];
        used = λ g y. elim (cases_eq g r.last) [
          | inl z ↦
              let e : (region t g).fill ≡ (region s r.last).fill + S.size h = ap (λ k. (region_at r.entries k).fill) z ∙ m.grown in
              (omega (arith, m.stored, m.count), omega (arith, some_words), omega (arith, m.fits))
          | inr z ↦
              let u = d.used g (sym (m.frees g z) ∙ y) in
              (omega (arith, m.count), omega (arith, m.fills g z), omega (arith, m.fills g z))
        ];
        opened = m.only;
        latest = λ l. omega (arith, m.stored, m.count);
        carded = referred (λ q i v. (q / 1024 ≡ v / 1024 → ⊥) → (s.cards.dirty (q / 64) ≡ true) ⊎ (s.cards.table (v / 1024) (q / 64) ≡ true)) d.carded;
        marked = λ q y. keeps q (d.marked q y);
        awaited = d.awaited;
        settled = d.settled;
        unmarked = d.unmarked;
        weights = d.weights;
        tallied = λ e g. d.tallied e g
            ∙ sym (held_ext (scanned s) (size_at S t) (size_at S s) (1024 * g) 1024 (λ q y. ap S.size (head_old q (scanned-starts d q y))));
        living = λ g. elim (cases_eq g r.last) [
          | inl z ↦
              let e : (region t g).fill ≡ (region s r.last).fill + S.size h = ap (λ k. (region_at r.entries k).fill) z ∙ m.grown in
              omega (arith, m.lives g, d.living g, ap (λ k. (region s k).fill) z)
          | inr z ↦ omega (arith, m.lives g, m.fills g z, d.living g)
        ];
        weighed = λ e g. m.lives g ∙ d.weighed e g
            ∙ sym (held_ext s.marks.marked (size_at S t) (size_at S s) (1024 * g) 1024 (λ q y. ap S.size (head_old q (d.marked q y))));
      }
