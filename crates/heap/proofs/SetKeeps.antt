-- A reference of an object is set. While marking, what it named is marked first: that is an object, since a reference names
-- one. What is written is nil or names the object of a root, and where that lies in another region the card of the object
-- written to becomes dirty. So the heap stays sound, the one word is all that changes of the objects, and the mark of what the
-- reference named is all that changes of the marks.
use Rattle.std.proofs.Common.{◌≡◌, ℕ, suc, ◌+◌, ◌-◌, ◌/◌, ◌<◌, Bool, true, false, ◌&&◌, eqb, ltb, Some, None, Option, sym, refl, ap, ◌∙◌, subst, arith}
use Rattle.layout.specs.Shape.{Shape, Lawful}
use Rattle.memory.specs.State.{State, word_in, root_in, with_word, with_marks, with_cards}
use Rattle.memory.specs.Edits.{reference_to, noted, storing, set_at, set_reference}
use Rattle.std.proofs.lemmas.Bool.{cond_both, eqb-true}
use Rattle.bitset.specs.Set.{joined}
use Rattle.heap.specs.Sound.{Sound}
use Rattle.heap.specs.Effects.{Outside, Wrote, Guards, Sets}
use Rattle.heap.proofs.Geometry.{place_below}
use Rattle.heap.proofs.Guarding.{guarded_keeps}
use Rattle.heap.proofs.Keeps.{Keeps, refused_keeps}
use Rattle.heap.proofs.Joined.{joined_has, joined_keeps, joined-other}
use Rattle.heap.proofs.WordKeeps.{written_sound, written_wrote, written_outside}

-- the dirty cards after a reference w of the object at p is written
pub record Carded (s : State) (p w : ℕ) (dirty : ℕ → Bool) : Type 0 where
  pub state : noted s p w ≡ with_cards s (record { dirty = dirty; table = s.cards.table })
  pub kept : (d : ℕ) → s.cards.dirty d ≡ true → dirty d ≡ true
  pub only : (d : ℕ) → (d ≡ p / 64 → ⊥) → dirty d ≡ s.cards.dirty d
  pub far : (q : ℕ) → w ≡ suc q → (p / 1024 ≡ q / 1024 → ⊥) → dirty (p / 64) ≡ true

pub noted-cards : (s : State) (p w : ℕ) → p < 32768 → (dirty : ℕ → Bool) × Carded s p w dirty
noted-cards s p w low = go (eqb w 0) (eqb ((w - 1) / 1024) (p / 1024)) refl refl
  where
    same : noted s p w ≡ s → ((q : ℕ) → w ≡ suc q → (p / 1024 ≡ q / 1024 → ⊥) → ⊥) → (dirty : ℕ → Bool) × Carded s p w dirty
    same e none = (s.cards.dirty, record { state = e; kept = λ d y. y; only = λ d y. refl; far = λ q y z. absurd (none q y z) })

    go : (a b : Bool) → eqb w 0 ≡ a → eqb ((w - 1) / 1024) (p / 1024) ≡ b → (dirty : ℕ → Bool) × Carded s p w dirty
    go true b x y = same (rw x) (λ q e d. omega (arith, eqb-true w 0 x))
    go false true x y = same (rw (x, y)) (λ q e d. d (omega (arith, eqb-true ((w - 1) / 1024) (p / 1024) y)))
    go false false x y = (
      joined 512 s.cards.dirty (p / 64),
      record {
        state = rw (x, y);
        kept = λ d e. joined_keeps 512 s.cards.dirty (p / 64) d (omega arith) e;
        only = λ d e. joined-other 512 s.cards.dirty (p / 64) d e;
        far = λ q e d. joined_has 512 s.cards.dirty (p / 64) (omega arith);
      },
    )

-- what a root holds is an object, and so is what its reference names
pub reference_names : {S : Shape} {s : State} → Sound S s → (k q : ℕ) → reference_to (root_in s k) ≡ suc q → s.starts q ≡ true
reference_names {S} {s} h k q e = go (root_in s k) (h.rooted k) e
  where
    go : (o : Option ℕ) → ((p : ℕ) → o ≡ Some p → s.starts p ≡ true) → reference_to o ≡ suc q → s.starts q ≡ true
    go None f z = absurd (omega arith)
    go (Some p) f z = let y = f p refl in let x : q ≡ p = omega (arith, place_below h p y) in ap s.starts x ∙ y

-- a reference is stored in an object
pub store_keeps : (S : Shape) → Lawful S → (s : State) (p i w : ℕ) → Sound S s → s.starts p ≡ true → S.reference (word_in s p) i ≡ true
    → ((q : ℕ) → w ≡ suc q → s.starts q ≡ true)
    → Sound S (storing s p i w) × Wrote S s (storing s p i w) p i w × Outside s (storing s p i w) × Guards s (storing s p i w) (word_in s (p + i))
store_keeps S law s p i w h object f names =
    let old : ℕ = word_in s (p + i) in
    let g = guarded_keeps h s.phase refl old (λ q z. h.linked p i q object f z) in
    let t = with_marks s g.0 in
    let c = noted-cards (with_word t (p + i) w) p w (place_below h p object) in
    let dirty = c.0 in
    let place = law.inside (word_in s p) i f in
    let wrote = written_wrote law g.2 p i w dirty object place.0 place.1 in
    let apart = written_outside law g.2 p i w dirty object place.0 place.1 in
    let is : storing s p i w ≡ with_cards (with_word t (p + i) w) (record { dirty = dirty; table = s.cards.table }) =
    ap (λ x. noted (with_word x (p + i) w) p w) g.1 ∙ c.1.state in
    subst (λ x. Sound S x × Wrote S s x p i w × Outside s x × Guards s x old) (sym is) (
      written_sound law g.2 p i w dirty object place.0 place.1 (λ y. names) (λ y. c.1.far) c.1.kept c.1.only,
      assumption wrote,
      assumption apart,
      assumption g.3,
    )

set_at_lem : (S : Shape) → Lawful S → (s : State) (o : Option ℕ) (i position k : ℕ) → root_in s i ≡ o → Sound S s
    → Keeps S s (λ t r. Sets S s t i position k r) (set_at S s o position (reference_to (root_in s k)))
set_at_lem S law s None i position k e h = refused_keeps S s _ _ h
set_at_lem S law s (Some p) i position k e h =
    cond_both (S.reference (word_in s p) position) _ _ (Keeps S s (λ t r. Sets S s t i position k r))
    (λ f.
    let all = store_keeps S law s p position (reference_to (root_in s k)) h (h.rooted i p e) f (reference_names h k) in
    record { sound = all.0; effect = (p, e, f, all.1, all.3); outside = all.2 })
    (λ f. refused_keeps S s _ _ h)

pub set_keeps : (S : Shape) → Lawful S → (s : State) (i position k : ℕ) → Sound S s → Keeps S s (λ t r. Sets S s t i position k r) (set_reference S s i position k)
set_keeps S law s i position k h =
    cond_both (ltb i 64 && ltb k 64) _ _ (Keeps S s (λ t r. Sets S s t i position k r))
    (λ b. set_at_lem S law s (root_in s i) i position k refl h)
    (λ b. refused_keeps S s _ _ h)
