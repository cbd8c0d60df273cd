-- How an edit that alters an object or reads a reference of it ends: both heaps refuse it, or both do it. The root that holds the
-- object decides, and a test of the object's header, and these are alike in both.
use Rattle.std.proofs.Common.{◌≡◌, ℕ, suc, ◌+◌, Bool, true, false, cond, ◌&&◌, eqb, ltb, Some, None, Ok, Err, Option, Result, sym, refl, ap, ◌∙◌, subst, arith}
use Rattle.image.specs.Content.{Content}
use Rattle.layout.specs.Shape.{Shape, plain}
use Rattle.memory.specs.State.{State, word_in, root_in, with_word as with_heap_word, with_root as with_heap_root}
use Rattle.memory.specs.Edits.{reference_to, named_by, set_reference, set_at, storing, get_reference, get_at, put_word, put_at}
use Rattle.model.specs.Edits.{held, numbered, word_at, of_object, with_word, with_root, set_reference as model_set, get_reference as model_get, put_word as model_put}
use Rattle.model.specs.declared.edits.Refusal.{Refusal}
use Rattle.model.specs.declared.edits.Refusal.TheVariants.{RootAbove63, RootNil, WrongPosition}
use Rattle.std.proofs.lemmas.Bool.{cond-true, cond-false, eq-eqb, ne_eqb}
use Rattle.life.proofs.Agree.{Agree, At, none, some, at_root, head_is}

-- a test that chooses for both
pub both_cond : {A B : Type 0} (P : A → B → Type 0) (b : Bool) {x y : A} {u v : B} → (b ≡ true → P x u) → (b ≡ false → P y v) → P (cond b x y) (cond b u v)
both_cond P true f g = f refl
both_cond P false f g = g refl

-- where a root is not nil, an edit of its object is done
pub of_object_lem : {A : Type 0} (m : Content) (i n : ℕ) (done : Result A Refusal × Content) → held m i ≡ suc n → of_object m i done ≡ done
of_object_lem m i n done e = cond-false (eqb (held m i) 0) _ _ (ne_eqb (held m i) 0 (λ z. omega arith))

-- where it is nil, it is refused
pub of_nil : {A : Type 0} (m : Content) (i : ℕ) (done : Result A Refusal × Content) → held m i ≡ 0 → of_object m i done ≡ (Err RootNil, m)
of_nil m i done e = cond-true (eqb (held m i) 0) _ _ (eq-eqb (held m i) 0 e)

-- both heaps are as they were, or one is T of the place of the object that root i holds, and the other is M
pub data InBoth (s : State) (m : Content) (ν : ℕ → ℕ) (within : Bool) (i : ℕ) (fits : ℕ → Bool) (T : ℕ → State) (M : Content) : Result (Unit {0}) Refusal × State → Result (Unit {0}) Refusal × Content → Type 0 where
  no : (why : Refusal) → InBoth s m ν within i fits T M (Err why, s) (Err why, m)
  yes : (p : ℕ) → within ≡ true → root_in s i ≡ Some p → s.starts p ≡ true → held m i ≡ suc (ν p) → fits (word_in s p) ≡ true
      → InBoth s m ν within i fits T M (Ok tt, T p) (Ok tt, M)

module _ {S : Shape} {s : State} {m : Content} {ν : ℕ → ℕ} (a : Agree S s m ν) where
  object_in_both : (within : Bool) (i : ℕ) (fits : ℕ → Bool) (T : ℕ → State) (M : Content) (at : Option ℕ → Result (Unit {0}) Refusal × State)
      → at None ≡ (Err RootNil, s) → ((p : ℕ) → at (Some p) ≡ cond (fits (word_in s p)) (Ok tt, T p) (Err WrongPosition, s))
      → InBoth s m ν within i fits T M (cond within (at (root_in s i)) (Err RootAbove63, s))
      (cond within (of_object m i (cond (fits (numbered m (held m i)).header) (Ok tt, M) (Err WrongPosition, m))) (Err RootAbove63, m))
  object_in_both within i fits T M at nil_is is = both_cond E within (λ e. go e (at_root a i)) (λ e. no RootAbove63)
    where
      E : Result (Unit {0}) Refusal × State → Result (Unit {0}) Refusal × Content → Type 0
      E = InBoth s m ν within i fits T M

      done : ℕ → Result (Unit {0}) Refusal × Content
      done h = cond (fits h) (Ok tt, M) (Err WrongPosition, m)

      go : within ≡ true → At s m ν i → E (at (root_in s i)) (of_object m i (done (numbered m (held m i)).header))
      go e (none n z) = subst (λ x. E x (of_object m i (done (numbered m (held m i)).header))) (sym (ap at n ∙ nil_is)) (subst (λ y. E (Err RootNil, s) y) (sym (of_nil m i _ z)) (no RootNil))
      go e (some p n st z) =
          subst (λ x. E x (of_object m i (done (numbered m (held m i)).header))) (sym (ap at n ∙ is p))
          (subst (λ y. E (cond (fits (word_in s p)) (Ok tt, T p) (Err WrongPosition, s)) y) (ap done (head_is a i p st z) ∙ sym (of_object_lem m i (ν p) _ z))
          (both_cond E (fits (word_in s p)) (λ f. yes p e n st z f) (λ f. no WrongPosition)))

abbrev pub SetInBoth : Shape → State → Content → (ℕ → ℕ) → ℕ → ℕ → ℕ → Result (Unit {0}) Refusal × State → Result (Unit {0}) Refusal × Content → Type 0
SetInBoth S s m ν i position k =
    InBoth s m ν (ltb i 64 && ltb k 64) i (λ h. S.reference h position) (λ p. storing s p position (reference_to (root_in s k))) (with_word m (held m i) position (held m k))

abbrev pub GetInBoth : Shape → State → Content → (ℕ → ℕ) → ℕ → ℕ → ℕ → Result (Unit {0}) Refusal × State → Result (Unit {0}) Refusal × Content → Type 0
GetInBoth S s m ν i position k =
    InBoth s m ν (ltb i 64 && ltb k 64) i (λ h. S.reference h position) (λ p. with_heap_root s k (named_by (word_in s (p + position)))) (with_root m k (word_at (numbered m (held m i)) position))

abbrev pub PutInBoth : Shape → State → Content → (ℕ → ℕ) → ℕ → ℕ → ℕ → Result (Unit {0}) Refusal × State → Result (Unit {0}) Refusal × Content → Type 0
PutInBoth S s m ν i position word =
    InBoth s m ν (ltb i 64) i (λ h. plain S h position) (λ p. with_heap_word s (p + position) word) (with_word m (held m i) position word)

module _ {S : Shape} {s : State} {m : Content} {ν : ℕ → ℕ} (a : Agree S s m ν) where
  pub set_in_both : (i position k : ℕ) → SetInBoth S s m ν i position k (set_reference S s i position k) (model_set S m i position k)
  set_in_both i position k = object_in_both a _ i _ _ _ (λ o. set_at S s o position (reference_to (root_in s k))) refl (λ p. refl)

  pub get_in_both : (i position k : ℕ) → GetInBoth S s m ν i position k (get_reference S s i position k) (model_get S m i position k)
  get_in_both i position k = object_in_both a _ i _ _ _ (λ o. get_at S s o position k) refl (λ p. refl)

  pub put_in_both : (i position word : ℕ) → PutInBoth S s m ν i position word (put_word S s i position word) (model_put S m i position word)
  put_in_both i position word = object_in_both a _ i _ _ _ (λ o. put_at S s o position word) refl (λ p. refl)
