-- The lowest dirty card is refined. A reference from it into another region needs no dirty card, since the card stands in that
-- region's table then. Neither that region nor the card's own is free, as objects lie there, so free regions stay vacant.
use Rattle.std.proofs.Common.{◌≡◌, ℕ, suc, ◌+◌, ◌/◌, ◌<◌, ◌≤◌, true, false, ◌⊎◌, Some, None, Option, sym, refl, ap, ◌∙◌, subst, inl, inr, true≢false, arith}
use Rattle.bitset.specs.Set.{put, first_of}
use Rattle.bitset.proofs.Set.{put_same, put_other, first_of_some, first_of_none}
use Rattle.layout.specs.Shape.{Shape, Lawful}
use Rattle.marking.specs.Refining.{enter_objects, refine_next, refine_step}
use Rattle.marking.specs.declared.refining.Refined.TheVariants.{Refined}
use Rattle.memory.specs.State.{State, word_in, with_cards}
use Rattle.std.proofs.lemmas.List.{get_or_past}
use Rattle.std.proofs.lemmas.Bool.{cases_eq, cases_lt, false_from_ne_true}
use Rattle.tables.specs.Cards.{cleaned}
use Rattle.tables.specs.Regions.{blank, is_free, is_free_at}
use Rattle.heap.specs.Sound.{Sound, Vacant}
use Rattle.heap.specs.Effects.{Outside}
use Rattle.heap.specs.Steps.{Refers, Refines, Refining}
use Rattle.heap.proofs.Entering.{Tables, Enters, card-entered}
use Rattle.heap.proofs.Geometry.{in_use}
use Rattle.heap.proofs.Keeps.{Keeps, same_outside}

module _ {S : Shape} {s : State} (h : Sound S s) where
  -- a card past the last region is clean
  clean-past : (c : ℕ) → 512 ≤ c → s.cards.dirty c ≡ false
  clean-past c l =
      let free : is_free_at s.regions.entries (c / 16) ≡ true = ap (λ e. is_free e.kind) (get_or_past s.regions.entries (c / 16) blank (omega (arith, h.entries))) in
      (h.vacant (c / 16) free).clean c refl

  -- a region that holds an object is not free
  not_free : (g p : ℕ) → s.starts p ≡ true → p / 1024 ≡ g → is_free_at s.regions.entries g ≡ true → ⊥
  not_free g p object z free = true≢false (sym free ∙ ap (is_free_at s.regions.entries) (sym z) ∙ in_use h p object)

  -- card d is clean, and stands in the tables t
  module _ (d : ℕ) (t : Tables) (e : Enters (Refers S s d) d s.cards.table t) where
    abbrev after : State
    after = with_cards s (record { dirty = put s.cards.dirty d false; table = t })

    -- an entry is an old one, if no object of card d refers to its region
    not_entered : (g c : ℕ) → s.cards.table g c ≡ false → (c ≡ d → Refers S s d g → ⊥) → t g c ≡ false
    not_entered g c old none = false_from_ne_true (t g c) (λ y. elim (e.only g c y) [ inl u ↦ true≢false (sym u ∙ old) | inr u ↦ none u.0 u.1 ])

    stays_clean : (c : ℕ) → s.cards.dirty c ≡ false → put s.cards.dirty d false c ≡ false
    stays_clean c z = elim (cases_eq c d) [
      | inl y ↦ ap (put s.cards.dirty d false) y ∙ put_same s.cards.dirty d false
      | inr y ↦ put_other s.cards.dirty d false c y ∙ z
    ]

    vacant : (g : ℕ) → is_free_at s.regions.entries g ≡ true → Vacant after g
    vacant g free =
        let v = h.vacant g free in
        record {
          unused = v.unused;
          lifeless = v.lifeless;
          forgetful = λ c.
              not_entered g c (v.forgetful c) (λ z r.
              not_free g r.target (h.linked r.place r.position r.target r.object r.reference r.word) r.leads free);
          clean = λ c z. stays_clean c (v.clean c z);
          forgotten = λ other c z. not_entered other c (v.forgotten other c z) (λ y r. not_free g r.place r.object (omega (arith, r.card)) free);
        }

    carded : (p i q : ℕ) → s.starts p ≡ true → S.reference (word_in s p) i ≡ true → word_in s (p + i) ≡ suc q
        → (p / 1024 ≡ q / 1024 → ⊥) → (after.cards.dirty (p / 64) ≡ true) ⊎ (t (q / 1024) (p / 64) ≡ true)
    carded p i q object reference word far = elim (cases_eq (p / 64) d) [
      | inl z ↦
          let r : Refers S s d (q / 1024) = record { place = p; position = i; target = q; object = object; card = z; reference = reference; word = word; leads = refl; other = far } in
          inr (ap (t (q / 1024)) z ∙ e.all (q / 1024) r)
      | inr z ↦ elim (h.carded p i q object reference word far) [
        | inl y ↦ inl (put_other s.cards.dirty d false (p / 64) z ∙ y)
        | inr y ↦ inr (e.kept (q / 1024) (p / 64) y)
      ]
    ]

    -- nothing else changes
    refined_sound : Sound S after
    refined_sound = assumption (vacant, carded, h)

    refined : s.cards.dirty d ≡ true → ((c : ℕ) → c < d → s.cards.dirty c ≡ false) → Refines S s after d
    refined dirty lowest =
        record {
          same = record { words = refl; starts = refl; roots = refl; fills = λ g. refl };
          marks = record { marked = λ q. refl; pending = λ q. refl; phase = refl };
          dirty = dirty;
          lowest = lowest;
          clean = put_same s.cards.dirty d false;
          others = λ c ne. put_other s.cards.dirty d false c ne;
          kept = e.kept;
          entered = e.all;
          only = λ g c y z. elim (e.only g c y) [ inl u ↦ absurd (true≢false (sym u ∙ z)) | inr u ↦ u ];
        }

    refined_outside : Outside s after
    refined_outside = record { words = λ k l. refl; spare = refl; count = refl }

pub refine_keeps : (S : Shape) → Lawful S → (s : State) → Sound S s → Keeps S s (λ t r. Refining S s t r) (refine_step S s)
refine_keeps S law s h = go (first_of s.cards.dirty 0 512) refl
  where
    go : (o : Option ℕ) → first_of s.cards.dirty 0 512 ≡ o → Keeps S s (λ t r. Refining S s t r) (refine_next S s o)
    go None e =
        record {
          sound = h;
          effect = (
            λ c. elim (cases_lt c 512) [ inl l ↦ first_of_none s.cards.dirty 0 512 c e (omega arith) (omega arith) | inr l ↦ clean-past h c l ],
            refl,
          );
          outside = same_outside s;
        }
    go (Some d) e =
        let first = first_of_some s.cards.dirty 0 512 d e in
        let all = card-entered law h d (omega (arith, first.1)) in
        let t = all.0 in
        let is : with_cards (enter_objects S s d 64) (cleaned (enter_objects S s d 64).cards d) ≡ with_cards s (record { dirty = put s.cards.dirty d false; table = t }) =
        ap (λ x. with_cards x (cleaned x.cards d)) all.1 in
        subst (λ x. Keeps S s (λ t r. Refining S s t r) (Refined, x)) (sym is)
        (record {
          sound = refined_sound h d t all.2;
          effect = (d, refined h d t all.2 first.2 (λ c l. first.3 c (omega arith) l));
          outside = refined_outside h d t all.2;
        })
