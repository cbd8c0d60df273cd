-- A plain word of an object is written. It lies after the header and within the object, and no reference is there; so nothing
-- that a sound heap asks of references changes, and no mark does.
use Rattle.std.proofs.Common.{◌≡◌, ℕ, ◌<◌, ◌≤◌, true, false, ltb, Some, None, Option, refl, arith}
use Rattle.layout.specs.Shape.{Shape, Lawful, plain}
use Rattle.memory.specs.State.{State, word_in, root_in}
use Rattle.memory.specs.Edits.{put_at, put_word}
use Rattle.std.proofs.lemmas.Bool.{cond_both}
use Rattle.std.proofs.lemmas.Bool.Decides.{nat_tests}
use Rattle.heap.specs.Sound.{Sound}
use Rattle.heap.specs.Effects.{Puts}
use Rattle.heap.proofs.Keeps.{Keeps, refused_keeps}
use Rattle.heap.proofs.WordKeeps.{written_sound, written_wrote, written_outside}

-- a plain word lies after the header and within the object, and is no reference
pub plain_is : (S : Shape) (header i : ℕ) → plain S header i ≡ true → (1 ≤ i) × (i < S.size header) × (S.reference header i ≡ false)
plain_is S header i e = (grind (arith, nat_tests), grind (arith, nat_tests), grind (arith, nat_tests))

put_at_lem : (S : Shape) → Lawful S → (s : State) (o : Option ℕ) (i position word : ℕ) → root_in s i ≡ o → Sound S s
    → Keeps S s (λ t r. Puts S s t i position word r) (put_at S s o position word)
put_at_lem S law s None i position word e h = refused_keeps S s _ _ h
put_at_lem S law s (Some p) i position word e h =
    cond_both (plain S (word_in s p) position) _ _ (Keeps S s (λ t r. Puts S s t i position word r))
    (λ f.
    let object = h.rooted i p e in
    let dirty = s.cards.dirty in
    let place = plain_is S (word_in s p) position f in
    let none : S.reference (word_in s p) position ≡ true → ⊥ = λ y. let z = place.2 in grind arith in
    record {
      sound = written_sound law h p position word dirty object place.0 place.1 (λ y. absurd (none y)) (λ y. absurd (none y)) (λ d y. y) (λ d y. refl);
      effect = (p, e, f, written_wrote law h p position word dirty object place.0 place.1, record { marked = λ q. refl; pending = λ q. refl; phase = refl });
      outside = written_outside law h p position word dirty object place.0 place.1;
    })
    (λ f. refused_keeps S s _ _ h)

pub put_keeps : (S : Shape) → Lawful S → (s : State) (i position word : ℕ) → Sound S s → Keeps S s (λ t r. Puts S s t i position word r) (put_word S s i position word)
put_keeps S law s i position word h =
    cond_both (ltb i 64) _ _ (Keeps S s (λ t r. Puts S s t i position word r))
    (λ b. put_at_lem S law s (root_in s i) i position word refl h)
    (λ b. refused_keeps S s _ _ h)
