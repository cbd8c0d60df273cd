-- Reading step after step until one refuses.
use Rattle.std.specs.Prelude.{ℕ, zero, suc, ◌+◌, List, [], ◌∷◌, Ok, Err, Result}

-- goes on with what was read, or refuses as it did
abbrev pub bind : {A B E : Type 0} → Result A E → (A → Result B E) → Result B E
bind (Ok a) k = k a
bind (Err e) k = Err e

-- the list with one more in front
abbrev pub prefixed : {A B E : Type 0} → A → Result (List A × B) E → Result (List A × B) E
prefixed a (Ok p) = Ok (a ∷ p.0, p.1)
prefixed a (Err e) = Err e

-- `count` steps, the first of them numbered i; each takes and leaves a state and gives one element
abbrev pub collect : {A S E : Type 0} → (ℕ → S → Result (A × S) E) → ℕ → ℕ → S → Result (List A × S) E
collect step i zero s = Ok ([], s)
collect step i (suc count) s = bind (step i s) (λ p. prefixed p.0 (collect step (i + 1) count p.1))
