-- What `map_err` gave: the same value, or an error that the closure made of the one before.
use Rattle.std.proofs.Common.{◌≡◌, ℕ, MatchResult, IsErrAnd, Ok, Err, Result, refl, subst, arith}

module _ {A D E : Type 0} (P : E → D → Type 0) where
  pub mapped_ok : (r : Result A E) (m : Result A D) (x : A) → MatchResult r (λ y. m ≡ Ok y) (λ e. IsErrAnd m (P e)) → m ≡ Ok x → r ≡ Ok x
  mapped_ok (Ok y) m x c e = cc
  mapped_ok (Err f) (Ok y) x c e = elim c [ ]
  mapped_ok (Err f) (Err d) x c e = let z : ◌≡◌ {A = ℕ} 0 1 = cc in absurd (omega arith)

  pub mapped_err : (r : Result A E) (m : Result A D) (d : D) → MatchResult r (λ y. m ≡ Ok y) (λ e. IsErrAnd m (P e)) → m ≡ Err d → (e : E) × (r ≡ Err e) × P e d
  mapped_err (Ok y) m d c e = let z : ◌≡◌ {A = ℕ} 0 1 = cc in absurd (omega arith)
  mapped_err (Err f) (Ok y) d c e = elim c [ ]
  mapped_err (Err f) (Err g) d c e = let same : g ≡ d = cc in (f, refl, subst (P f) same c)
