-- Lists of numbers, each once. If one has all members of another and both are as long, the other has all members of the one.
use Rattle.std.proofs.Common.{◌≡◌, ℕ, suc, ◌≤◌, true, cond, eqb, ◌⊎◌, List, [], ◌∷◌, length, sym, refl, ap, ◌∙◌, subst, inl, inr, arith}
use Rattle.std.proofs.lemmas.Bool.{both_ways, cases_eq, cond-true, cond-false, eq-eqb, ne_eqb, false≢true}
use Rattle.life.specs.Snapshot.{among, Single}

-- a member is the first, or one of the others
pub among_cases : (xs : List ℕ) (n x : ℕ) → among (x ∷ xs) n ≡ true → (n ≡ x) ⊎ (among xs n ≡ true)
among_cases xs n x e = elim (cases_eq n x) [ inl d ↦ inl d | inr d ↦ inr (sym (cond-false _ true (among xs n) (ne_eqb n x d)) ∙ e) ]

pub among_first : (xs : List ℕ) (n x : ℕ) → n ≡ x → among (x ∷ xs) n ≡ true
among_first xs n x e = cond-true _ true (among xs n) (eq-eqb n x e)

pub among_later : (xs : List ℕ) (n x : ℕ) → among xs n ≡ true → among (x ∷ xs) n ≡ true
among_later xs n x e = elim (cases_eq n x) [ inl d ↦ among_first xs n x d | inr d ↦ cond-false _ true (among xs n) (ne_eqb n x d) ∙ e ]

-- a list without the first n that it has
abbrev pub without : ℕ → List ℕ → List ℕ
without n [] = []
without n (x ∷ xs) = cond (eqb n x) xs (x ∷ without n xs)

-- it is shorter by 1
pub without_length : (n : ℕ) (xs : List ℕ) → among xs n ≡ true → suc (length (without n xs)) ≡ length xs
without_length n [] e = absurd (false≢true e)
without_length n (x ∷ xs) e = elim (cases_eq n x) [
  | inl d ↦ ap (λ l. suc (length l)) (cond-true _ xs (x ∷ without n xs) (eq-eqb n x d))
  | inr d ↦ ap (λ l. suc (length l)) (cond-false _ xs (x ∷ without n xs) (ne_eqb n x d))
      ∙ ap suc (without_length n xs (sym (cond-false _ true (among xs n) (ne_eqb n x d)) ∙ e))
]

-- it has the other members, and no more
pub without_other : (n o : ℕ) (xs : List ℕ) → (o ≡ n → ⊥) → among xs o ≡ true → among (without n xs) o ≡ true
without_other n o [] ne e = e
without_other n o (x ∷ xs) ne e = elim (cases_eq n x) [
  | inl d ↦ subst (λ l. among l o ≡ true) (sym (cond-true _ xs (x ∷ without n xs) (eq-eqb n x d)))
      (elim (among_cases xs o x e) [ inl z ↦ absurd (ne (z ∙ sym d)) | inr z ↦ z ])
  | inr d ↦ subst (λ l. among l o ≡ true) (sym (cond-false _ xs (x ∷ without n xs) (ne_eqb n x d)))
      (elim (among_cases xs o x e) [ inl z ↦ among_first (without n xs) o x z | inr z ↦ among_later (without n xs) o x (without_other n o xs ne z) ])
]

-- a list of numbers, each once, all members of ys, and not shorter than ys: it has all of ys
pub filled : (xs ys : List ℕ) → Single xs → ((n : ℕ) → among xs n ≡ true → among ys n ≡ true) → length ys ≤ length xs
    → (n : ℕ) → among ys n ≡ true → among xs n ≡ true
filled [] [] one sub l n e = e
filled [] (y ∷ ys) one sub l n e = absurd (omega arith)
filled (x ∷ xs) ys one sub l n e = elim (cases_eq n x) [
  | inl d ↦ among_first xs n x d
  | inr d ↦ among_later xs n x (filled xs (without x ys) one.1 inside shorter n (without_other x n ys d e))
]
  where
    inside : (o : ℕ) → among xs o ≡ true → among (without x ys) o ≡ true
    inside o k = without_other x o ys (λ z. both_ways _ one.0 (subst (λ w. among xs w ≡ true) z k)) (sub o (among_later xs o x k))

    shorter : length (without x ys) ≤ length xs
    shorter = omega (arith, without_length x ys (sub x (among_first xs x x refl)))
