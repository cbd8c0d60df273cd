-- Reading backwards: if a chain of steps gave a value, each of its steps did. `Runs` lists the steps
-- of a `collect` with the states between them, so that both ways go element by element.
use Rattle.std.proofs.Common.{◌≡◌, ℕ, zero, suc, ◌+◌, Bool, true, false, cond, List, [], ◌∷◌, length, Ok, Err, Result, refl, ap, ◌∙◌, subst, arith}
use Rattle.image.specs.Steps.{bind, prefixed, collect}

module _ {A B E : Type 0} where
  pub bind_ok : (r : Result A E) (k : A → Result B E) (b : B) → bind r k ≡ Ok b → (a : A) × (r ≡ Ok a) × (k a ≡ Ok b)
  bind_ok (Ok a) k b e = (a, refl, e)
  bind_ok (Err f) k b e = let z : ◌≡◌ {A = ℕ} 0 1 = cc in absurd (omega arith)

  prefixed_ok : (a : A) (r : Result (List A × B) E) (xs : List A) (t : B) → prefixed a r ≡ Ok (xs, t) → (ys : List A) × (r ≡ Ok (ys, t)) × (a ∷ ys ≡ xs)
  prefixed_ok a (Ok p) xs t e =
      let q : ◌≡◌ {A = List A × B} (a ∷ p.0, p.1) (xs, t) = cc in
      (p.0, ap (λ x. Ok (p.0, x.1)) q, ap (λ x. x.0) q)
  prefixed_ok a (Err f) xs t e = let z : ◌≡◌ {A = ℕ} 0 1 = cc in absurd (omega arith)

pub cond_ok : {A E : Type 0} (b : Bool) (x : Result A E) (f : E) (a : A) → cond b x (Err f) ≡ Ok a → (b ≡ true) × (x ≡ Ok a)
cond_ok true x f a e = (refl, e)
cond_ok false x f a e = let z : ◌≡◌ {A = ℕ} 0 1 = cc in absurd (omega arith)

pub ok_is : {A E : Type 0} (a b : A) → ◌≡◌ {A = Result A E} (Ok a) (Ok b) → a ≡ b
ok_is a b e = cc

module _ {A S E : Type 0} (step : ℕ → S → Result (A × S) E) where
  -- the steps give the elements one after another and lead from one state to the other
  abbrev pub Runs : ℕ → S → List A → S → Type 0
  Runs i s [] t = s ≡ t
  Runs i s (a ∷ xs) t = (u : S) × (step i s ≡ Ok (a, u)) × Runs (i + 1) u xs t

  pub collect_runs : (count i : ℕ) (s : S) (xs : List A) (t : S) → collect step i count s ≡ Ok (xs, t) → (length xs ≡ count) × Runs i s xs t
  collect_runs zero i s [] t e = (refl, ap (λ p. p.1) (ok_is ([], s) ([], t) e))
  collect_runs zero i s (a ∷ xs) t e =
      let q : ◌≡◌ {A = List A} [] (a ∷ xs) = ap (λ p. p.0) (ok_is ([], s) (a ∷ xs, t) e) in
      absurd (omega (arith, ap length q))
  collect_runs (suc count) i s xs t e =
      let b = bind_ok (step i s) (λ p. prefixed p.0 (collect step (i + 1) count p.1)) (xs, t) e in
      let p = prefixed_ok b.0.0 (collect step (i + 1) count b.0.1) xs t b.2 in
      let r = collect_runs count (i + 1) b.0.1 p.0 t p.1 in
      subst (λ ys. (length ys ≡ suc count) × Runs i s ys t) p.2 (ap suc r.0, (b.0.1, b.1, r.1))

  pub runs_collect : (i : ℕ) (s : S) (xs : List A) (t : S) → Runs i s xs t → collect step i (length xs) s ≡ Ok (xs, t)
  runs_collect i s [] t e = ap (λ x. Ok ([], x)) e
  runs_collect i s (a ∷ xs) t r =
      ap (λ w. bind w (λ p. prefixed p.0 (collect step (i + 1) (length xs) p.1))) r.1 ∙ ap (prefixed a) (runs_collect (i + 1) r.0 xs t r.2)
