-- Loops that change the state one step at a time.
use Rattle.std.proofs.Common.{◌≡◌, ℕ, zero, suc, ◌+◌, ◌-◌, ◌*◌, ◌≤◌, Some, None, Option, refl, ap, ◌∙◌, arith}
use Rattle.layout.specs.Shape.{Shape}
use Rattle.memory.specs.State.{State, root_in}
use Rattle.marking.specs.Scanning.{shaded_at, shaded_roots}
use Rattle.marking.specs.Refining.{enter_object, enter_objects}

shaded_at-roots : (s : State) (r : Option ℕ) → (shaded_at s r).roots ≡ s.roots
shaded_at-roots s None = refl
shaded_at-roots s (Some p) = refl

-- shading alters no root
pub roots_kept : (s : State) (k : ℕ) → (shaded_roots s k).roots ≡ s.roots
unfolding shaded_roots
roots_kept s zero = refl
roots_kept s (suc k) = shaded_at-roots (shaded_roots s k) (root_in (shaded_roots s k) k) ∙ roots_kept s k

-- the objects of a card are entered one after another
pub objects_none : (S : Shape) (s : State) (c p : ℕ) → s ≡ enter_objects S s c (p - p)
unfolding enter_objects
objects_none S s c p = let e : p - p ≡ 0 = omega arith in rw e

pub objects_more : (S : Shape) (s t u : State) (c p : ℕ) → 64 * c ≤ p → t ≡ enter_objects S s c (p - 64 * c) → u ≡ enter_object S t c p → u ≡ enter_objects S s c (p + 1 - 64 * c)
unfolding enter_objects
objects_more S s t u c p l e d =
    let n : p + 1 - 64 * c ≡ suc (p - 64 * c) = omega arith in
    let m : 64 * c + (p - 64 * c) ≡ p = omega arith in
    rw (n, m) (d ∙ ap (λ x. enter_object S x c p) e)
