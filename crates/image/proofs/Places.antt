-- Nothing is reported past the end of the image: reading starts inside the bytes, a number that is
-- read ends inside them, and a fault is reported where something begins or at the end.
use Rattle.std.proofs.Common.{◌≡◌, ℕ, zero, suc, ◌+◌, ◌-◌, ◌≤◌, ◌&&◌, eqb, ltb, leb, List, [], ◌∷◌, length, Ok, Err, Result, refl, ap, arith}
use Rattle.std.proofs.lemmas.Bool.{cond_both}
use Rattle.layout.specs.Shape.{Shape}
use Rattle.leb128.specs.declared.Fault.{Fault as NumberFault}
use Rattle.leb128.specs.declared.Fault.TheVariants.{EndsEarly, NotShortest, TooWide}
use Rattle.leb128.specs.declared.Number.{Number}
use Rattle.leb128.specs.Number.{read_at}
use Rattle.leb128.specs.Laws.{Canonical}
use Rattle.leb128.proofs.Steps.{Bytes}
use Rattle.leb128.proofs.Laws.{canonical}
use Rattle.image.specs.declared.refusals.Fault.{Fault}
use Rattle.image.specs.declared.refusals.Refusal.{Refusal}
use Rattle.image.specs.declared.strict.Role.{Role}
use Rattle.image.specs.Content.{Object, Content}
use Rattle.image.specs.Steps.{bind, prefixed, collect}
use Rattle.image.specs.Read.{fault_place, located, number_at, start_of, sign_at, counts_at, judged, placed, State, value_at, roots_at, body_at, object_at, objects_at, read}
use Rattle.image.proofs.Stages.{root_step, body_step, object_step}

module _ (bs : List ℕ) (ty : Bytes bs) where
  -- a refusal lies inside the bytes, and P holds of what is read
  abbrev pub Inside : {A : Type 0} → (A → Type 0) → Result A Refusal → Type 0
  Inside P (Ok a) = P a
  Inside P (Err f) = f.place ≤ length bs

  bind-inside : {A B : Type 0} (P : A → Type 0) (Q : B → Type 0) (r : Result A Refusal) (k : A → Result B Refusal) →
      Inside P r → ((a : A) → P a → Inside Q (k a)) → Inside Q (bind r k)
  bind-inside P Q (Ok a) k h go = go a h
  bind-inside P Q (Err f) k h go = h

  abbrev Here : State → Type 0
  Here s = s.1 ≤ length bs

  prefixed-inside : {A : Type 0} (a : A) (r : Result (List A × State) Refusal) → Inside (λ p. Here p.1) r → Inside (λ p. Here p.1) (prefixed a r)
  prefixed-inside a (Ok p) h = h
  prefixed-inside a (Err f) h = h

  collect-inside : {A : Type 0} (step : ℕ → State → Result (A × State) Refusal) → ((i : ℕ) (s : State) → Here s → Inside (λ p. Here p.1) (step i s)) →
      (count i : ℕ) (s : State) → Here s → Inside (λ p. Here p.1) (collect step i count s)
  collect-inside step keeps zero i s h = h
  collect-inside {A} step keeps (suc count) i s h =
      bind-inside (λ (p : A × State). Here p.1) (λ (p : List A × State). Here p.1) (step i s) (λ p. prefixed p.0 (collect step (i + 1) count p.1)) (keeps i s h)
      (λ p q. prefixed-inside p.0 (collect step (i + 1) count p.1) (collect-inside step keeps count (i + 1) p.1 q))

  abbrev Ends : Number → Type 0
  Ends p = p.next ≤ length bs

  fault_inside : (f : NumberFault) (at : ℕ) → at ≤ length bs → fault_place f bs at ≤ length bs
  fault_inside EndsEarly at h = omega arith
  fault_inside NotShortest at h = h
  fault_inside TooWide at h = h

  located-inside : (k at : ℕ) (r : Result Number NumberFault) → at ≤ length bs → Canonical bs at r → Inside Ends (located bs k at r)
  located-inside k at (Ok p) h c = c.2
  located-inside k at (Err f) h c = fault_inside f at h

  number-inside : (k at : ℕ) → at ≤ length bs → Inside Ends (number_at bs k at)
  unfolding number_at
  number-inside k at h = located-inside k at (read_at bs at) h (canonical bs at ty)

  placed-inside : (at k : ℕ) (r : Result ℕ Fault) → at ≤ length bs → Inside (λ _. Unit {0}) (placed at k r)
  placed-inside at k (Ok m) h = tt
  placed-inside at k (Err f) h = h

  value_inside : (n k : ℕ) (r : Role) (s : State) → Here s → Inside (λ p. Here p.1) (value_at bs n k r s)
  unfolding value_at
  value_inside n k r s h =
      bind-inside Ends (λ (p : ℕ × State). Here p.1) (number_at bs k s.1) _ (number-inside k s.1 h)
      (λ p e. bind-inside (λ _. Unit {0}) (λ (q : ℕ × State). Here q.1) (placed s.1 k (judged r n s.0 p.value)) _ (placed-inside s.1 k (judged r n s.0 p.value) h) (λ m _. e))

  body-inside : (S : Shape) (n k h : ℕ) (s : State) → Here s → Inside (λ p. Here p.1) (body_at S bs n k h s)
  unfolding body_at
  body-inside S n k h s here = collect-inside (body_step bs n S k h) (λ i t. value_inside n k _ t) (S.size h - 1) 1 s here

  object-inside : (S : Shape) (n k : ℕ) (s : State) → Here s → Inside (λ p. Here p.1) (object_at S bs n k s)
  unfolding object_at
  object-inside S n k s h =
      let P : Result (Object × State) Refusal → Type 0 = Inside (λ p. Here p.1) in
      cond_both (leb k s.0) _ _ P
      (λ _. bind-inside Ends (λ (p : Object × State). Here p.1) (number_at bs k s.1) _ (number-inside k s.1 h)
      (λ p e. cond_both (S.legal p.value) _ _ P
      (λ _. bind-inside (λ (b : List ℕ × State). Here b.1) (λ (q : Object × State). Here q.1) (body_at S bs n k p.value (s.0, p.next)) _ (body-inside S n k p.value (s.0, p.next) e) (λ b here. here))
      (λ _. h)))
      (λ _. h)

  start-inside : (cs : List ℕ) → cs ≡ bs → Inside (λ at. at ≤ length bs) (start_of cs)
  start-inside [] e = omega arith
  start-inside (a ∷ []) e = omega (arith, ap length e)
  start-inside (a ∷ b ∷ rest) e =
      cond_both (eqb a 0x43 && eqb b 0x4D) _ _ (Inside (λ at. at ≤ length bs)) (λ _. omega (arith, ap length e)) (λ _. omega arith)

  sign-inside : (S : Shape) (at : ℕ) → at ≤ length bs → Inside (λ next. next ≤ length bs) (sign_at S bs at)
  sign-inside S at h =
      bind-inside Ends (λ next. next ≤ length bs) (number_at bs 0 at) _ (number-inside 0 at h)
      (λ p e. cond_both (eqb p.value S.sign) _ _ (Inside (λ next. next ≤ length bs)) (λ _. e) (λ _. h))

  abbrev Counted : (ℕ × ℕ) × ℕ → Type 0
  Counted c = c.1 ≤ length bs

  counts_inside : (at : ℕ) → at ≤ length bs → Inside Counted (counts_at bs at)
  counts_inside at h =
      bind-inside Ends Counted (number_at bs 0 at) _ (number-inside 0 at h)
      (λ p e. bind-inside Ends Counted (number_at bs 0 p.next) _ (number-inside 0 p.next e)
      (λ q f. cond_both (leb q.value 64) _ _ (Inside Counted) (λ _. f) (λ _. e)))

  roots-inside : (n r : ℕ) (s : State) → Here s → Inside (λ p. Here p.1) (roots_at bs n r s)
  unfolding roots_at
  roots-inside n r s h = collect-inside (root_step bs n r) (λ i t. value_inside n 0 _ t) r 0 s h

  objects-inside : (S : Shape) (n : ℕ) (s : State) → Here s → Inside (λ p. Here p.1) (objects_at S bs n s)
  unfolding objects_at
  objects-inside S n s h = collect-inside (object_step bs n S) (λ k t. object-inside S n k t) n 1 s h

  -- where a refusal of the whole image is reported
  pub read-inside : (S : Shape) → Inside (λ _. Unit {0}) (read S bs)
  unfolding read
  read-inside S =
      let Q : Content → Type 0 = λ _. Unit {0} in
      bind-inside (λ at. at ≤ length bs) Q (start_of bs) _ (start-inside bs refl)
      (λ a ha. bind-inside (λ at. at ≤ length bs) Q (sign_at S bs a) _ (sign-inside S a ha)
      (λ b hb. bind-inside Counted Q (counts_at bs b) _ (counts_inside b hb)
      (λ c hc. bind-inside (λ (p : List ℕ × State). Here p.1) Q (roots_at bs c.0.0 c.0.1 (0, c.1)) _ (roots-inside c.0.0 c.0.1 (0, c.1) hc)
      (λ v hv. bind-inside (λ (p : List Object × State). Here p.1) Q (objects_at S bs c.0.0 v.1) _ (objects-inside S c.0.0 v.1 hv)
      (λ o ho. cond_both (ltb o.1.1 (length bs)) _ _ (Inside Q) (λ _. ho) (λ _. tt))))))
