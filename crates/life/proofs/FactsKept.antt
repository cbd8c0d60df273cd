-- An edit keeps what is true of a marking, in each phase: what is reached through a root now was reached at the begin, or was
-- made since, and a reference that is overwritten while marking has what it named marked.
use Rattle.std.proofs.Common.{◌≡◌, ℕ, suc, ◌+◌, ◌<◌, true, false, ◌⊎◌, List, length, sym, refl, ap, ◌∙◌, subst, inl, inr, arith}
use Rattle.image.specs.Content.{Content}
use Rattle.layout.specs.Shape.{Shape}
use Rattle.memory.specs.State.{State, word_in}
use Rattle.memory.specs.declared.phase.Phase.{Phase}
use Rattle.memory.specs.declared.phase.Phase.TheVariants.{Idle, Marking, Marked}
use Rattle.model.specs.Edits.{object_at, word_at}
use Rattle.std.proofs.lemmas.Bool.{both_ways, cases_Bool}
use Rattle.life.specs.Snapshot.{Reached, Known, among}
use Rattle.life.proofs.Agree.{Agree}
use Rattle.life.proofs.Facts.{Stands, Underway, Over, Unscanned, Facts, FactsIn, Edits}
use Rattle.life.proofs.Standing.{reached_below, held_below, named_below, named-known, unmarked_reached, head_then}

module _ {S : Shape} {s t : State} {m m' : Content} {ν ν' : ℕ → ℕ}
    (a : Agree S s m ν) (b : Agree S t m' ν') (e : Edits S s t m m' ν ν') where
  -- an object of a number of the snapshot is an old one, under its number
  old_one : {m₀ : Content} → Stands S s m ν m₀ → (p : ℕ) → t.starts p ≡ true → ν' p < length m₀.objects → (s.starts p ≡ true) × (ν' p ≡ ν p)
  old_one {m₀} h p st l = elim (e.new-one p st) [
    | inl o ↦ (o, (e.stays p o).1)
    | inr o ↦ absurd (omega (arith, h.grown, o.1))
  ]

  module _ {m₀ : Content} (busy : s.phase ≡ Idle → ⊥) (h : Stands S s m ν m₀) where
    stands_edit : Stands S t m' ν' m₀
    stands_edit = record {
      whole = h.whole;
      grown = omega (arith, h.grown, e.grown);
      heads = λ n l. e.heads n (omega (arith, h.grown)) ∙ h.heads n l;
      roots = λ k n d. elim (e.roots k n d) [
        | inl x ↦ h.roots x.0 n x.1
        | inr x ↦ elim x [ inl y ↦ named-known h n y | inr y ↦ inr (omega (arith, h.grown)) ]
      ];
      fields = λ o i n k f d. elim (e.fields o i n f d) [
        | inl x ↦ h.fields o i n k x.0 x.1
        | inr x ↦ h.roots x.0 n x.1
      ];
      there = λ n r. (let w = h.there n r in let y = e.stays w.0 w.1 in (w.0, y.0, y.1 ∙ w.2));
      made = λ p st l. elim (e.new-one p st) [
        | inl o ↦ e.kept p (h.made p o (omega (arith, (e.stays p o).1)))
        | inr o ↦ (e.born busy p st o.0).0
      ];
      known = λ p k. elim (e.new-one p (b.sound.marked p k)) [
        | inl o ↦ subst (Known S m₀) (sym (e.stays p o).1) (elim (cases_Bool (s.marks.marked p)) [
          | inl y ↦ h.known p y
          | inr y ↦ named-known h (ν p) (e.only p o k y).1
        ])
        | inr o ↦ inr (omega (arith, h.grown, o.1))
      ];
    }

  module _ {m₀ : Content} {xs : List ℕ} (now : s.phase ≡ Marking) (u : Underway S s m ν m₀ xs) where
    busy : s.phase ≡ Idle → ⊥
    busy z = let y : ◌≡◌ {A = ℕ} 0 1 = cc in omega arith

    old : (p : ℕ) → t.starts p ≡ true → Reached S m₀ (ν' p) → (s.starts p ≡ true) × (ν' p ≡ ν p)
    old p st r = old_one u.stands p st (reached_below u.stands.whole (ν' p) r)

    -- what becomes pending was reached
    new-pending : (p : ℕ) → s.starts p ≡ true → s.marks.marked p ≡ false → t.marks.pending p ≡ true → Reached S m₀ (ν p)
    new-pending p st f w =
        unmarked_reached u.stands p st f (named-known u.stands (ν p) (e.only p st (b.sound.awaited p w) f).1)

    unscanned : (p : ℕ) → s.starts p ≡ true → Unscanned s p → Unscanned t p
    unscanned p st (inl f) = elim (cases_Bool (t.marks.marked p)) [ inl y ↦ inr (e.only p st y f).0 | inr y ↦ inl y ]
    unscanned p st (inr w) = inr (e.awaits p w)

    stood : (p i q : ℕ) → s.starts p ≡ true → S.reference (word_in s p) i ≡ true → s.starts q ≡ true
        → (s.marks.marked q ≡ true) ⊎ (Unscanned s p × (word_in s (p + i) ≡ suc q))
        → (t.marks.marked q ≡ true) ⊎ (Unscanned t p × (word_in t (p + i) ≡ suc q))
    stood p i q st f sq (inl y) = inl (e.kept q y)
    stood p i q st f sq (inr y) = elim (e.written p i q st f sq y.1) [
      | inl w ↦ inr (unscanned p st y.0, w)
      | inr w ↦ inl (w now)
    ]

    snapshot : (p i q : ℕ) → t.starts p ≡ true → Reached S m₀ (ν' p) → S.reference (word_in t p) i ≡ true → t.starts q ≡ true
        → word_at (object_at m₀.objects (ν' p)) i ≡ suc (ν' q) → (t.marks.marked q ≡ true) ⊎ (Unscanned t p × (word_in t (p + i) ≡ suc q))
    snapshot p i q tp r f tq d =
        let sp = old p tp r in
        let r' : Reached S m₀ (ν p) = subst (Reached S m₀) sp.1 r in
        let f' : S.reference (word_in s p) i ≡ true = subst (λ w. S.reference w i ≡ true) (e.stays p sp.0).2 f in
        let d₁ : word_at (object_at m₀.objects (ν p)) i ≡ suc (ν' q) = subst (λ n. word_at (object_at m₀.objects n) i ≡ suc (ν' q)) sp.1 d in
        let g : S.reference (object_at m₀.objects (ν p)).header i ≡ true = subst (λ w. S.reference w i ≡ true) (head_then u.stands a p sp.0 r') f' in
        let sq = old_one u.stands q tq (named_below u.stands.whole (ν p) i (ν' q) r' g d₁) in
        stood p i q sp.0 f' sq.0 (u.kept p i q sp.0 r' f' sq.0 (d₁ ∙ ap suc sq.1))

    underway_edit : Underway S t m' ν' m₀ xs
    underway_edit = record {
      stands = stands_edit busy u.stands;
      waiting = λ p w. elim (e.no_more p w) [
        | inl y ↦ (let st = a.sound.marked p (a.sound.awaited p y) in subst (Reached S m₀) (sym (e.stays p st).1) (u.waiting p y))
        | inr y ↦ subst (Reached S m₀) (sym (e.stays p y.0).1) (new-pending p y.0 y.1 w)
      ];
      rooted = λ k p st d. (let o = old_one u.stands p st (held_below u.stands.whole k (ν' p) d) in
          e.kept p (u.rooted k p o.0 (d ∙ ap suc o.1)));
      kept = snapshot;
      single = u.single;
      listed = λ p st r k w. (let o = old p st r in
          let marked : s.marks.marked p ≡ true = elim (cases_Bool (s.marks.marked p)) [ inl y ↦ y | inr y ↦ absurd (both_ways _ w (e.only p o.0 k y).0) ] in
          let done : s.marks.pending p ≡ false = elim (cases_Bool (s.marks.pending p)) [ inl y ↦ absurd (both_ways _ w (e.awaits p y)) | inr y ↦ y ] in
          subst (λ n. among xs n ≡ true) (sym o.1) (u.listed p o.0 (subst (Reached S m₀) o.1 r) marked done));
      scanned = λ p st i. (let o = old p st (u.found (ν' p) i) in
          let y = u.scanned p o.0 (subst (λ n. among xs n ≡ true) o.1 i) in (
            e.kept p y.0,
            elim (cases_Bool (t.marks.pending p)) [
              | inl w ↦ absurd (elim (e.no_more p w) [ inl z ↦ both_ways _ y.1 z | inr z ↦ both_ways _ z.1 y.0 ])
              | inr w ↦ w
            ],
          ));
      found = u.found;
    }

  over_edit : {m₀ : Content} {xs : List ℕ} → s.phase ≡ Marked → Over S s m ν m₀ xs → Over S t m' ν' m₀ xs
  over_edit {m₀} {xs} now u = record {
    stands = stands_edit busy' u.stands;
    all = λ p st r. (let o = old_one u.stands p st (reached_below u.stands.whole (ν' p) r) in
        e.kept p (u.all p o.0 (subst (Reached S m₀) o.1 r)));
    single = u.single;
    listed = u.listed;
    found = u.found;
  }
    where
      busy' : s.phase ≡ Idle → ⊥
      busy' z = let y : ◌≡◌ {A = ℕ} 0 1 = cc in omega arith

  pub facts_edit : (m₀ : Content) (xs : List ℕ) → Facts S s m ν m₀ xs → Facts S t m' ν' m₀ xs
  facts_edit m₀ xs f = go s.phase refl f
    where
      go : (x : Phase) → s.phase ≡ x → FactsIn S s m ν m₀ xs x → FactsIn S t m' ν' m₀ xs t.phase
      go Idle d f = subst (λ x. FactsIn S t m' ν' m₀ xs x) (sym (e.phase ∙ d)) tt
      go Marking d f = subst (λ x. FactsIn S t m' ν' m₀ xs x) (sym (e.phase ∙ d)) (underway_edit d f)
      go Marked d f = subst (λ x. FactsIn S t m' ν' m₀ xs x) (sym (e.phase ∙ d)) (over_edit d f)
