-- A root that is replaced by nil or by an object keeps a heap sound, and no object and no mark changes. What a root holds, and
-- what a reference of an object names, is an object; so get, copy and clear replace a root in that way.
use Rattle.std.proofs.Common.{◌≡◌, ℕ, zero, suc, ◌+◌, true, ◌&&◌, ltb, ◌⊎◌, length, List, [], ◌∷◌, get_or, set, Some, None, Option, sym, refl, ap, ◌∙◌, inl, inr, arith, length-set}
use Rattle.layout.specs.Shape.{Shape}
use Rattle.memory.specs.State.{State, word_in, root_in, with_root}
use Rattle.memory.specs.Edits.{named_by, get_at, get_reference, copy_root, clear_root}
use Rattle.std.proofs.lemmas.Bool.{cond_both}
use Rattle.std.proofs.lemmas.Bool.Decides.{nat_tests}
use Rattle.tables.specs.Regions.{is_free_at}
use Rattle.heap.specs.Sound.{Sound, Vacant}
use Rattle.heap.specs.Effects.{Outside, Held, SameMarks, Gets, Copies, Clears}
use Rattle.heap.proofs.Keeps.{Keeps, refused_keeps}
pub use Rattle.heap.proofs.Keeps.{same_outside}

-- what a list has after one element is replaced: the new one there, or what it had
pub set_tells : {A : Type 0} (xs : List A) (i : ℕ) (v : A) (j : ℕ) (d : A)
    → ((j ≡ i) × (get_or (set xs i v) j d ≡ v)) ⊎ (get_or (set xs i v) j d ≡ get_or xs j d)
set_tells [] i v j d = inr refl
set_tells (x ∷ xs) zero v zero d = inl (refl, refl)
set_tells (x ∷ xs) zero v (suc j) d = inr refl
set_tells (x ∷ xs) (suc i) v zero d = inr refl
set_tells (x ∷ xs) (suc i) v (suc j) d = elim (set_tells xs i v j d) [ inl u ↦ inl (ap suc u.0, u.1) | inr u ↦ inr u ]

-- root k becomes v, which is nil or names an object
pub root_sound : {S : Shape} {s : State} → Sound S s → (k : ℕ) (v : Option ℕ) → ((p : ℕ) → v ≡ Some p → s.starts p ≡ true) → Sound S (with_root s k v)
root_sound {S} {s} h k v names =
    let rooms : length (set s.roots k v) ≡ 64 = length-set s.roots k v ∙ h.rooms in
    let rooted : (j p : ℕ) → root_in (with_root s k v) j ≡ Some p → s.starts p ≡ true =
    λ j p e. elim (set_tells s.roots k v j None) [ inl u ↦ names p (sym u.1 ∙ e) | inr u ↦ h.rooted j p (sym u ∙ e) ] in
    let vacant : (g : ℕ) → is_free_at s.regions.entries g ≡ true → Vacant (with_root s k v) g = λ g e. let u = h.vacant g e in assumption u in
    assumption h

pub root-held : (s : State) (k : ℕ) (v : Option ℕ) → Held s (with_root s k v) k v
root-held s k v = record { starts = refl; words = refl; roots = refl }

pub root-marks : (s : State) (k : ℕ) (v : Option ℕ) → SameMarks s (with_root s k v)
root-marks s k v = record { marked = λ q. refl; pending = λ q. refl; phase = refl }

pub root_outside : (s : State) (k : ℕ) (v : Option ℕ) → Outside s (with_root s k v)
root_outside s k v = record { words = λ j l. refl; spare = refl; count = refl }

-- the place that a word names is an object, if each place that it may name is one
pub named-object : (s : State) (w : ℕ) → ((q : ℕ) → w ≡ suc q → s.starts q ≡ true) → (p : ℕ) → named_by w ≡ Some p → s.starts p ≡ true
named-object s zero names p e = absurd (grind arith)
named-object s (suc q) names p e = let z : q ≡ p = grind (arith, nat_tests) in names p (ap suc z)

get_at_lem : (S : Shape) (s : State) (o : Option ℕ) (i position k : ℕ) → root_in s i ≡ o → Sound S s → Keeps S s (λ t r. Gets S s t i position k r) (get_at S s o position k)
get_at_lem S s None i position k e h = refused_keeps S s _ _ h
get_at_lem S s (Some p) i position k e h =
    cond_both (S.reference (word_in s p) position) _ _ (Keeps S s (λ t r. Gets S s t i position k r))
    (λ f.
    let v = named_by (word_in s (p + position)) in
    record {
      sound = root_sound h k v (named-object s (word_in s (p + position)) (λ q z. h.linked p position q (h.rooted i p e) f z));
      effect = (p, e, f, root-held s k v, root-marks s k v);
      outside = root_outside s k v;
    })
    (λ f. refused_keeps S s _ _ h)

pub get_keeps : (S : Shape) (s : State) (i position k : ℕ) → Sound S s → Keeps S s (λ t r. Gets S s t i position k r) (get_reference S s i position k)
get_keeps S s i position k h =
    cond_both (ltb i 64 && ltb k 64) _ _ (Keeps S s (λ t r. Gets S s t i position k r))
    (λ b. get_at_lem S s (root_in s i) i position k refl h)
    (λ b. refused_keeps S s _ _ h)

pub copy_keeps : (S : Shape) (s : State) (i k : ℕ) → Sound S s → Keeps S s (λ t r. Copies s t i k r) (copy_root s i k)
copy_keeps S s i k h =
    cond_both (ltb i 64 && ltb k 64) _ _ (Keeps S s (λ t r. Copies s t i k r))
    (λ b.
    record {
      sound = root_sound h k (root_in s i) (h.rooted i);
      effect = (root-held s k (root_in s i), root-marks s k (root_in s i));
      outside = root_outside s k (root_in s i);
    })
    (λ b. refused_keeps S s _ _ h)

pub clear_keeps : (S : Shape) (s : State) (i : ℕ) → Sound S s → Keeps S s (λ t r. Clears s t i r) (clear_root s i)
clear_keeps S s i h =
    cond_both (ltb i 64) _ _ (Keeps S s (λ t r. Clears s t i r))
    (λ b.
    record {
      sound = root_sound h i None (λ p e. absurd (grind arith));
      effect = (root-held s i None, root-marks s i None);
      outside = root_outside s i None;
    })
    (λ b. refused_keeps S s _ _ h)
