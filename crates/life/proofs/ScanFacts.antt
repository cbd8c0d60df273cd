-- A mark scans an object that was reached at the begin: it goes on the list, and what it refers to is marked. All else that is
-- true while marking stays so.
use Rattle.std.proofs.Common.{◌≡◌, ℕ, suc, ◌+◌, true, false, ◌⊎◌, List, ◌∷◌, get_or, sym, ap, ◌∙◌, subst, inl, inr}
use Rattle.image.specs.Content.{Content}
use Rattle.heap.specs.Steps.{Scans}
use Rattle.layout.specs.Shape.{Shape}
use Rattle.memory.specs.State.{State, word_in}
use Rattle.memory.specs.declared.phase.Phase.TheVariants.{Marking}
use Rattle.model.specs.Edits.{object_at, word_at}
use Rattle.std.proofs.lemmas.Bool.{both_ways, cases_Bool, cases_eq}
use Rattle.life.specs.Snapshot.{Reached, Known, among}
use Rattle.life.proofs.Agree.{Agree}
use Rattle.life.proofs.Facts.{Stands, Underway, Unscanned, Facts, FactsIn}
use Rattle.life.proofs.Lists.{among_cases, among_first, among_later}
use Rattle.life.proofs.Standing.{unmarked_reached}

module _ {S : Shape} {s t : State} {m : Content} {ν : ℕ → ℕ} (a : Agree S s m ν) (b : Agree S t m ν) (p : ℕ) (x : Scans S s t p) where
  before : (q : ℕ) → t.starts q ≡ true → s.starts q ≡ true
  before q st = subst (λ f. f q ≡ true) x.same.starts st

  after : (q : ℕ) → s.starts q ≡ true → t.starts q ≡ true
  after q st = subst (λ f. f q ≡ true) (sym x.same.starts) st

  word_same : (k : ℕ) → word_in t k ≡ word_in s k
  word_same k = ap (λ ws. get_or ws k 0) x.same.words

  start : s.starts p ≡ true
  start = a.sound.marked p (a.sound.awaited p x.waited)

  module _ {m₀ : Content} {xs : List ℕ} (u : Underway S s m ν m₀ xs) where
    reached : Reached S m₀ (ν p)
    reached = u.waiting p x.waited

    -- what becomes marked is what a reference of p names
    newly_known : (q : ℕ) → t.marks.marked q ≡ true → s.marks.marked q ≡ false → Known S m₀ (ν q)
    newly_known q k f =
        let w = (x.only q k f).1 in
        let g = subst (λ h. S.reference h w.0 ≡ true) (a.tied.heads p start) w.1 in
        u.stands.fields (ν p) w.0 (ν q) (inl reached) g (a.tied.same p w.0 q start w.1 w.2)

    stands_scan : Stands S t m ν m₀
    stands_scan = record {
      whole = u.stands.whole;
      grown = u.stands.grown;
      heads = u.stands.heads;
      roots = u.stands.roots;
      fields = u.stands.fields;
      there = λ n r. (let w = u.stands.there n r in (w.0, after w.0 w.1, w.2));
      made = λ q st l. x.kept q (u.stands.made q (before q st) l);
      known = λ q k. elim (cases_Bool (s.marks.marked q)) [ inl y ↦ u.stands.known q y | inr y ↦ newly_known q k y ];
    }

    unscanned : (q : ℕ) → (q ≡ p → ⊥) → Unscanned s q → Unscanned t q
    unscanned q ne (inl f) = elim (cases_Bool (t.marks.marked q)) [ inl y ↦ inr (x.only q y f).0 | inr y ↦ inl y ]
    unscanned q ne (inr w) = inr (x.awaits q w ne)

    stood : (o i q : ℕ) → S.reference (word_in s o) i ≡ true → (s.marks.marked q ≡ true) ⊎ (Unscanned s o × (word_in s (o + i) ≡ suc q))
        → (t.marks.marked q ≡ true) ⊎ (Unscanned t o × (word_in t (o + i) ≡ suc q))
    stood o i q f (inl y) = inl (x.kept q y)
    stood o i q f (inr y) = elim (cases_eq o p) [
      | inl e ↦ inl (x.named i q (subst (λ k. S.reference (word_in s k) i ≡ true) e f) (subst (λ k. word_in s (k + i) ≡ suc q) e y.1))
      | inr e ↦ inr (unscanned o e y.0, word_same (o + i) ∙ y.1)
    ]

    snapshot : (o i q : ℕ) → t.starts o ≡ true → Reached S m₀ (ν o) → S.reference (word_in t o) i ≡ true → t.starts q ≡ true
        → word_at (object_at m₀.objects (ν o)) i ≡ suc (ν q) → (t.marks.marked q ≡ true) ⊎ (Unscanned t o × (word_in t (o + i) ≡ suc q))
    snapshot o i q to r f tq d =
        let f' = subst (λ w. S.reference w i ≡ true) (word_same o) f in
        stood o i q f' (u.kept o i q (before o to) r f' (before q tq) d)

    -- it was not scanned before
    fresh : among xs (ν p) ≡ false
    fresh = elim (cases_Bool (among xs (ν p))) [ inl y ↦ absurd (both_ways _ (u.scanned p start y).1 x.waited) | inr y ↦ y ]

    listed_scan : (q : ℕ) → t.starts q ≡ true → Reached S m₀ (ν q) → t.marks.marked q ≡ true → t.marks.pending q ≡ false → among (ν p ∷ xs) (ν q) ≡ true
    listed_scan q tq r k w = elim (cases_eq q p) [
      | inl e ↦ among_first xs (ν q) (ν p) (ap ν e)
      | inr e ↦ (let marked : s.marks.marked q ≡ true = elim (cases_Bool (s.marks.marked q)) [ inl y ↦ y | inr y ↦ absurd (both_ways _ w (x.only q k y).0) ] in
          let done : s.marks.pending q ≡ false = elim (cases_Bool (s.marks.pending q)) [ inl y ↦ absurd (both_ways _ w (x.awaits q y e)) | inr y ↦ y ] in
          among_later xs (ν q) (ν p) (u.listed q (before q tq) r marked done))
    ]

    scanned_scan : (q : ℕ) → t.starts q ≡ true → among (ν p ∷ xs) (ν q) ≡ true → (t.marks.marked q ≡ true) × (t.marks.pending q ≡ false)
    scanned_scan q tq i = elim (among_cases xs (ν q) (ν p) i) [
      | inl e ↦ (let d : p ≡ q = sym (a.tied.distinct q p (before q tq) start e) in
          subst (λ k. (t.marks.marked k ≡ true) × (t.marks.pending k ≡ false)) d (x.kept p (a.sound.awaited p x.waited), x.finished))
      | inr j ↦ (let y = u.scanned q (before q tq) j in (
        x.kept q y.0,
        elim (cases_Bool (t.marks.pending q)) [
          | inl w ↦ absurd (elim (x.no_more q w) [ inl z ↦ both_ways _ y.1 z.0 | inr z ↦ both_ways _ z y.0 ])
          | inr w ↦ w
        ],
      ))
    ]

    underway_scan : Underway S t m ν m₀ (ν p ∷ xs)
    underway_scan = record {
      stands = stands_scan;
      waiting = λ q w. elim (x.no_more q w) [
        | inl y ↦ u.waiting q y.0
        | inr y ↦ (let k = b.sound.awaited q w in unmarked_reached u.stands q (before q (b.sound.marked q k)) y (newly_known q k y))
      ];
      rooted = λ k q st d. x.kept q (u.rooted k q (before q st) d);
      kept = snapshot;
      single = (fresh, u.single);
      listed = listed_scan;
      scanned = scanned_scan;
      found = λ n i. elim (among_cases xs n (ν p) i) [ inl e ↦ subst (Reached S m₀) (sym e) reached | inr j ↦ u.found n j ];
    }

pub facts_scan : {S : Shape} {s t : State} {m : Content} {ν : ℕ → ℕ} → Agree S s m ν → Agree S t m ν → s.phase ≡ Marking → (p : ℕ) → Scans S s t p
    → (m₀ : Content) (xs : List ℕ) → Facts S s m ν m₀ xs → Facts S t m ν m₀ (ν p ∷ xs)
facts_scan {S} {s} {t} {m} {ν} a b now p x m₀ xs f =
    subst (λ y. FactsIn S t m ν m₀ (ν p ∷ xs) y) (sym x.phase)
    (underway_scan a b p x (subst (λ y. FactsIn S s m ν m₀ xs y) now f))
