-- That a heap is sound is known of a value by its type, as a fact that has one proof at most. From that fact the record comes
-- back: nearly all its parts have one proof at most themselves, and in the other two it can be decided which side holds.
use Rattle.std.proofs.Common.{◌≡◌, ◌⊎◌, inl, inr}
use Rattle.std.proofs.Math.Logic.{by_cases, ∥∥₁_elim, ∥∥₁_map}
use Rattle.std.proofs.Math.Bool.{Bool-discrete}
use Rattle.std.proofs.Math.Decide.{ℕ_discrete}
use Rattle.std.proofs.Props.{props}
use Rattle.layout.specs.Shape.{Shape}
use Rattle.memory.specs.State.{State}
use Rattle.heap.specs.Sound.{Sound}

-- a fact that comes back from knowing that it has a proof
record Recovers (A : Type 0) : Type 0 where
  back : ∥ A ∥₁ → A

recovers_once : {A : Type 0} → IsProp A → Recovers A
recovers_once once = record { back = λ h. ∥∥₁_elim h once (λ a. a) }

recovers_each : {A : Type 0} {B : A → Type 0} → ((x : A) → Recovers (B x)) → Recovers ((x : A) → B x)
recovers_each each = record { back = λ h x. (each x).back (∥∥₁_map h (λ f. f x)) }

recovers_both : {A B : Type 0} → Recovers A → Recovers B → Recovers (A × B)
recovers_both a b = record { back = λ h. (a.back (∥∥₁_map h (λ p. p.0)), b.back (∥∥₁_map h (λ p. p.1))) }

recovers_as : {A B : Type 0} (to : A → B) (from : B → A) → ((a : A) → from (to a) ≡ a) → Recovers B → Recovers A
recovers_as to from same b = record { back = λ h. from (b.back (∥∥₁_map h to)) }

recovers_side : {A B : Type 0} → Dec A → IsProp B → Recovers (A ⊎ B)
recovers_side which once =
    record { back = λ h. by_cases which inl (λ no. inr (∥∥₁_elim h once (elim [ inl a ↦ absurd (no a) | inr b ↦ b ]))) }

pub recovered : (S : Shape) (s : State) → ∥ Sound S s ∥₁ → Sound S s
recovered S s = whole.back
  where
    whole : Recovers (Sound S s)
    whole = hlevel (recovers_once, recovers_each, recovers_both, recovers_as, recovers_side, Bool-discrete, ℕ_discrete, props)
