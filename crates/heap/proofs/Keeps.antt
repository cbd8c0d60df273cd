-- What is shown of each call on a sound heap: it stays sound, the call has its effect, and nothing outside changes. An edit
-- that is refused alters nothing, so it keeps all that.
use Rattle.std.proofs.Common.{◌≡◌, Err, sym, refl, subst}
use Rattle.layout.specs.Shape.{Shape}
use Rattle.memory.specs.State.{State}
use Rattle.model.specs.declared.edits.Refusal.{Refusal}
use Rattle.heap.specs.Sound.{Sound}
use Rattle.heap.specs.Effects.{Outside, Granting}
use Rattle.heap.proofs.Recovering.{recovered}

pub record Keeps {A : Type 0} (S : Shape) (s : State) (Effect : State → A → Type 0) (p : A × State) : Type 0 where
  pub sound : Sound S p.1
  pub effect : Effect p.1 p.0
  pub outside : Outside s p.1

-- a call that gives what its definition says keeps what the definition keeps, on a heap that its type says to be sound
pub kept : {A : Type 0} {S : Shape} {s : State} {Effect : State → A → Type 0} {p q : A × State} → ∥ Sound S s ∥₁ → p ≡ q → (Sound S s → Keeps S s Effect q) → Keeps S s Effect p
kept {S} {s} {Effect} h e keeps = subst (Keeps S s Effect) (sym e) (keeps (recovered S s h))

-- a refused call alters nothing
pub same_outside : (s : State) → Outside s s
same_outside s = record { words = λ k l. refl; spare = refl; count = refl }

pub refused_keeps : (S : Shape) (s : State) (Work : State → Type 0) (why : Refusal) → Sound S s → Keeps S s (λ t r. Granting s t (Work t) r) (Err why, s)
refused_keeps S s Work why h = record { sound = h; effect = refl; outside = same_outside s }
