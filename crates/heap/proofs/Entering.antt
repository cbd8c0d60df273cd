-- A card is entered in tables: for each object that starts in it, and for each reference of that object, in the table of the
-- region that the reference leads to, unless that is the card's own. In the end it stands in the tables of just these regions.
use Rattle.std.proofs.Common.{◌≡◌, ℕ, zero, suc, ◌+◌, ◌-◌, ◌*◌, ◌/◌, ◌<◌, ◌≤◌, Bool, true, false, cond, eqb, ◌⊎◌, sym, refl, ap, ◌∙◌, ap₂, inl, inr, true≢false, arith}
use Rattle.layout.specs.Shape.{Shape, Lawful}
use Rattle.marking.specs.Refining.{entering, enter_field, enter_fields, enter_object, enter_objects}
use Rattle.memory.specs.State.{State, word_in, with_cards}
use Rattle.std.proofs.lemmas.Bool.{cases_Bool, cases_eq, cond-true, cond-false, eqb-true, eqb-false, ne_eqb}
use Rattle.std.proofs.lemmas.Bool.Decides.{nat_tests}
use Rattle.tables.specs.Cards.{entered}
use Rattle.heap.specs.Sound.{Sound, size_at}
use Rattle.heap.specs.Steps.{Refers}
use Rattle.heap.proofs.Geometry.{place_below}

-- the tables of all regions
abbrev pub Tables : Type 0
Tables = ℕ → ℕ → Bool

abbrev pub with_tables : State → Tables → State
with_tables s t = with_cards s (record { dirty = s.cards.dirty; table = t })

module _ (t : Tables) (g d : ℕ) where
  entered_has : g < 32 → d < 512 → (h : ℕ) → h ≡ g → entered t g d h d ≡ true
  unfolding entered
  entered_has l m h z = grind (arith, nat_tests)

  entered_keeps : (h k : ℕ) → t h k ≡ true → entered t g d h k ≡ true
  unfolding entered
  entered_keeps h k e = grind (arith, nat_tests)

  entered_is : (h k : ℕ) → entered t g d h k ≡ true → (t h k ≡ true) ⊎ ((h ≡ g) × (k ≡ d))
  unfolding entered
  entered_is h k e = grind (arith, nat_tests)

-- card d is entered in the tables of some regions, and that is all that changes
pub record Enters (Named : ℕ → Type 0) (d : ℕ) (a b : Tables) : Type 0 where
  pub kept : (g c : ℕ) → a g c ≡ true → b g c ≡ true
  pub all : (g : ℕ) → Named g → b g d ≡ true
  pub only : (g c : ℕ) → b g c ≡ true → (a g c ≡ true) ⊎ ((c ≡ d) × Named g)

enters_none : (Named : ℕ → Type 0) (d : ℕ) (a : Tables) → ((g : ℕ) → Named g → ⊥) → Enters Named d a a
enters_none Named d a none = record { kept = λ g c e. e; all = λ g e. absurd (none g e); only = λ g c e. inl e }

-- the same regions, said in other words
enters_same : {Named Also : ℕ → Type 0} {d : ℕ} {a b : Tables} → Enters Named d a b → ((g : ℕ) → Named g → Also g) → ((g : ℕ) → Also g → Named g)
    → Enters Also d a b
enters_same h more back =
    record { kept = h.kept; all = λ g e. h.all g (back g e); only = λ g c e. elim (h.only g c e) [ inl u ↦ inl u | inr u ↦ inr (u.0, more g u.1) ] }

-- one region more
enters_more : {Named Also : ℕ → Type 0} {d : ℕ} {a b : Tables} → Enters Named d a b → (o : ℕ) → o < 32 → d < 512
    → ((g : ℕ) → Named g → Also g) → ((g : ℕ) → g ≡ o → Also g)
    → ((g : ℕ) → Also g → Named g ⊎ (g ≡ o)) → Enters Also d a (entered b o d)
enters_more {Named} {Also} {d} {a} {b} h o l m more new either =
    record {
      kept = λ g c e. entered_keeps b o d g c (h.kept g c e);
      all = λ g e. elim (either g e) [ inl y ↦ entered_keeps b o d g d (h.all g y) | inr y ↦ entered_has b o d l m g y ];
      only = λ g c e. elim (entered_is b o d g c e) [
        | inl y ↦ elim (h.only g c y) [ inl u ↦ inl u | inr u ↦ inr (u.0, more g u.1) ]
        | inr y ↦ inr (y.1, new g y.0)
      ];
    }

-- a region that an object in the first n words of the card refers to
abbrev objects_below : Shape → State → ℕ → ℕ → ℕ → Type 0
objects_below S s d n g = (r : Refers S s d g) × (r.place < 64 * d + n)

-- or the object right after these, at one of the first m positions after its header
abbrev fields_upto : Shape → State → ℕ → ℕ → ℕ → ℕ → Type 0
fields_upto S s d n m g = (r : Refers S s d g) × ((r.place < 64 * d + n) ⊎ ((r.place ≡ 64 * d + n) × (r.position ≤ m)))

module _ {S : Shape} (law : Lawful S) {s : State} (h : Sound S s) (d : ℕ) (low : d < 512) where
  -- ---- the object at the card's word n
  module _ (n : ℕ) (near : n < 64) (object : s.starts (64 * d + n) ≡ true) where
    abbrev at : ℕ
    at = 64 * d + n

    one_more : (m g : ℕ) → fields_upto S s d n m g → fields_upto S s d n (suc m) g
    one_more m g u = (u.0, elim u.1 [ inl y ↦ inl y | inr y ↦ inr (y.0, omega (arith, y.1)) ])

    -- what is referred to up to a position is referred to there or before
    here_or_before : (m g : ℕ) → fields_upto S s d n (suc m) g → fields_upto S s d n m g ⊎ ((r : Refers S s d g) × (r.place ≡ at) × (r.position ≡ suc m))
    here_or_before m g u = elim u.1 [
      | inl y ↦ inl (u.0, inl y)
      | inr y ↦ elim (cases_eq u.0.position (suc m)) [ inl z ↦ inr (u.0, y.0, z) | inr z ↦ inl (u.0, inr (y.0, omega (arith, y.1))) ]
    ]

    word-there : (m g : ℕ) (r : Refers S s d g) → r.place ≡ at → r.position ≡ suc m → word_in s (at + suc m) ≡ suc r.target
    word-there m g r x y = ap₂ (λ p i. word_in s (p + i)) (sym x) (sym y) ∙ r.word

    -- the word at a position that holds a reference
    module _ (m : ℕ) (reference : S.reference (word_in s at) (suc m) ≡ true) (a t : Tables) (e : Enters (fields_upto S s d n m) d a t) where
      nothing_new : ((g : ℕ) (r : Refers S s d g) → r.place ≡ at → r.position ≡ suc m → ⊥) → Enters (fields_upto S s d n (suc m)) d a t
      nothing_new none = enters_same e (one_more m) (λ g u. elim (here_or_before m g u) [ inl y ↦ y | inr y ↦ absurd (none g y.0 y.1 y.2) ])

      -- it names q
      word_names : (q : ℕ) → word_in s (at + suc m) ≡ suc q → (b : Bool) → eqb (q / 1024) (d / 16) ≡ b
          → (u : Tables) × (cond b (with_tables s t) (with_tables s (entered t (q / 1024) d)) ≡ with_tables s u) × Enters (fields_upto S s d n (suc m)) d a u
      word_names q w true z = (
        t,
        refl,
        nothing_new (λ g r x y. r.other (omega (arith, eqb-true (q / 1024) (d / 16) z, word-there m g r x y, r.leads, r.card))),
      )
      word_names q w false z = (
        entered t (q / 1024) d,
        refl,
        enters_more e (q / 1024) (omega (arith, place_below h q (h.linked at (suc m) q object reference w))) low (one_more m)
            (λ g y. (
              record {
                place = at;
                position = suc m;
                target = q;
                object = object;
                card = omega arith;
                reference = reference;
                word = w;
                leads = sym y;
                other = λ same. eqb-false (q / 1024) (d / 16) z (omega arith);
              },
              inr (refl, omega arith),
            ))
            (λ g u. elim (here_or_before m g u) [ inl y ↦ inl y | inr y ↦ inr (omega (arith, word-there m g y.0 y.1 y.2, y.0.leads)) ]),
      )

      word-entered : (w : ℕ) → word_in s (at + suc m) ≡ w → (u : Tables) × (entering (with_tables s t) d w ≡ with_tables s u) × Enters (fields_upto S s d n (suc m)) d a u
      word-entered zero w = (t, refl, nothing_new (λ g r x y. omega (arith, w, word-there m g r x y)))
      word-entered (suc v) w =
          let q = suc v - 1 in
          let names : word_in s (at + suc m) ≡ suc q = w ∙ omega arith in
          let u = word_names q names (eqb (q / 1024) (d / 16)) refl in
          (u.0, cond-false (eqb (suc v) 0) _ _ (ne_eqb (suc v) 0 (λ z. omega arith)) ∙ u.1, u.2)

    field-entered : (a t : Tables) (m : ℕ) → Enters (fields_upto S s d n m) d a t
        → (u : Tables) × (enter_field S (with_tables s t) d at (word_in s at) (suc m) ≡ with_tables s u) × Enters (fields_upto S s d n (suc m)) d a u
    field-entered a t m e = elim (cases_Bool (S.reference (word_in s at) (suc m))) [
      | inl r ↦ let u = word-entered m r a t e (word_in s (at + suc m)) refl in (u.0, cond-true _ _ _ r ∙ u.1, u.2)
      | inr r ↦ (
        t,
        cond-false _ _ _ r,
        enters_same e (one_more m) (λ g u. elim (here_or_before m g u) [
          | inl y ↦ y
          | inr y ↦ absurd (true≢false (sym (ap₂ (λ p i. S.reference (word_in s p) i) (sym y.1) (sym y.2) ∙ y.0.reference) ∙ r))
        ]),
      )
    ]

    fields_entered : (a t : Tables) (m : ℕ) → Enters (fields_upto S s d n 0) d a t
        → (u : Tables) × (enter_fields S (with_tables s t) d at (word_in s at) m ≡ with_tables s u) × Enters (fields_upto S s d n m) d a u
    unfolding enter_fields
    fields_entered a t zero e = (t, refl, e)
    fields_entered a t (suc m) e =
        let before = fields_entered a t m e in
        let next = field-entered a before.0 m before.2 in
        (next.0, ap (λ x. enter_field S x d at (word_in s at) (suc m)) before.1 ∙ next.1, next.2)

    -- a position of a reference is after the header, and within the object
    first_field : (g : ℕ) → fields_upto S s d n 0 g → objects_below S s d n g
    first_field g u = (u.0, elim u.1 [ inl y ↦ y | inr y ↦ absurd (omega (arith, y.1, (law.inside (word_in s u.0.place) u.0.position u.0.reference).0)) ])

    last_field : (g : ℕ) → objects_below S s d (suc n) g → fields_upto S s d n (size_at S s at - 1) g
    last_field g u = elim (cases_eq u.0.place at) [
      | inl z ↦
          let size : size_at S s u.0.place ≡ size_at S s at = ap (size_at S s) z in
          (u.0, inr (z, omega (arith, (law.inside (word_in s u.0.place) u.0.position u.0.reference).1)))
      | inr z ↦ (u.0, inl (omega (arith, u.1)))
    ]

  -- ---- the words of the card
  object-entered : (n : ℕ) → n < 64 → (a t : Tables) → Enters (objects_below S s d n) d a t
      → (u : Tables) × (enter_object S (with_tables s t) d (64 * d + n) ≡ with_tables s u) × Enters (objects_below S s d (suc n)) d a u
  object-entered n near a t e = elim (cases_Bool (s.starts (64 * d + n))) [
    | inl o ↦
        let from = enters_same e (λ g u. (u.0, inl u.1)) (first_field n near o) in
        let u = fields_entered n near o a t (size_at S s (64 * d + n) - 1) from in
        let upto = enters_same u.2 (λ g y. (y.0, elim y.1 [ inl z ↦ omega (arith, z) | inr z ↦ omega (arith, z.0) ])) (last_field n near o) in
        (u.0, cond-true _ _ _ o ∙ u.1, upto)
    | inr o ↦ (
      t,
      cond-false _ _ _ o,
      enters_same e (λ g u. (u.0, omega (arith, u.1))) (λ g u. elim (cases_eq u.0.place (64 * d + n)) [
        | inl z ↦ absurd (true≢false (sym (ap s.starts (sym z) ∙ u.0.object) ∙ o))
        | inr z ↦ (u.0, omega (arith, u.1))
      ]),
    )
  ]

  objects-entered : (n : ℕ) → n ≤ 64 → (t : Tables) × (enter_objects S s d n ≡ with_tables s t) × Enters (objects_below S s d n) d s.cards.table t
  unfolding enter_objects
  objects-entered zero l = (
    s.cards.table,
    refl,
    enters_none (objects_below S s d 0) d s.cards.table (λ g u. omega (arith, u.1, u.0.card)),
  )
  objects-entered (suc n) l =
      let before = objects-entered n (omega arith) in
      let next = object-entered n l s.cards.table before.0 before.2 in
      (next.0, ap (λ x. enter_object S x d (64 * d + n)) before.1 ∙ next.1, next.2)

  -- the whole card
  pub card-entered : (t : Tables) × (enter_objects S s d 64 ≡ with_tables s t) × Enters (Refers S s d) d s.cards.table t
  card-entered =
      let all = objects-entered 64 (omega arith) in
      (all.0, all.1, enters_same all.2 (λ g u. u.0) (λ g r. (r, omega (arith, r.card))))
