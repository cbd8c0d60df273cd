-- What was accepted, part by part: the bytes that a part was read from are the written form of what
-- it gave, and its references are numbered as first met. So an accepted image is the written form
-- of its content.
use Rattle.std.proofs.Common.{◌≡◌, ℕ, ◌+◌, ◌-◌, ◌^◌, ◌<◌, ◌≤◌, max, Bool, true, false, cond, ◌&&◌, eqb, leb, List, [], ◌∷◌, ◌++◌, length, drop, Ok, Err, Result, sym, refl, ap, ◌∙◌, subst, append_assoc, arith}
use Rattle.std.proofs.lemmas.Bool.{leb-true, eqb-false, and_parts}
use Rattle.layout.specs.Shape.{Shape}
use Rattle.leb128.specs.declared.Fault.{Fault as NumberFault}
use Rattle.leb128.specs.declared.Number.{Number}
use Rattle.leb128.specs.Number.{encode, read_at}
use Rattle.leb128.specs.Laws.{Canonical}
use Rattle.leb128.proofs.Steps.{Bytes}
use Rattle.leb128.proofs.Laws.{canonical}
use Rattle.image.specs.declared.refusals.Fault.{Fault}
use Rattle.image.specs.declared.refusals.Fault.TheVariants as fault
use Rattle.image.specs.declared.strict.Role.{Role}
use Rattle.image.specs.declared.strict.Role.TheVariants as role
use Rattle.image.specs.Content.{Object, numbers, object_bytes, objects_bytes}
use Rattle.image.specs.Steps.{bind}
use Rattle.image.specs.Read.{located, number_at, noted, judged, placed, State, value_at, body_role, body_at, object_at}
use Rattle.image.specs.Numbering.{Admitted, greatest, greatest_of, Numbered, Ordered}
use Rattle.image.proofs.Runs.{bind_ok, cond_ok, ok_is, Runs, collect_runs}
use Rattle.image.proofs.Stages.{body_step, object_step}

located_ok : (bs : List ℕ) (k at : ℕ) (r : Result Number NumberFault) (p : Number) → located bs k at r ≡ Ok p → r ≡ Ok p
located_ok bs k at (Ok q) p e = ap Ok (ok_is q p e)
located_ok bs k at (Err f) p e = let z : ◌≡◌ {A = ℕ} 0 1 = cc in absurd (omega arith)

placed_ok : {A : Type 0} (at k : ℕ) (r : Result A Fault) (a : A) → placed at k r ≡ Ok a → r ≡ Ok a
placed_ok at k (Ok b) a e = ap Ok (ok_is b a e)
placed_ok at k (Err f) a e = let z : ◌≡◌ {A = ℕ} 0 1 = cc in absurd (omega arith)

noted_ok : (n m v g : ℕ) → noted n m v ≡ Ok g → (v ≤ n) × (v ≤ m + 1) × (g ≡ max m v)
noted_ok n m v g e =
    let c = cond_ok (leb v n && leb v (m + 1)) (Ok (max m v)) fault.Reference g e in
    let b = and_parts (leb v n) (leb v (m + 1)) c.0 in
    (leb-true v n b.0, leb-true v (m + 1) b.1, sym (ok_is (max m v) g c.1))

judged_ok : (r : Role) (n m v g : ℕ) → v < 2 ^ 32 → judged r n m v ≡ Ok g → Admitted r n m v × (g ≡ greatest r m v)
judged_ok role.Plain n m v g l e = (l, sym (ok_is m g e))
judged_ok role.Reference n m v g l e = let a = noted_ok n m v g e in ((a.0, a.1), a.2)
judged_ok role.LastRoot n m v g l e = by (eqb v 0) refl e
  where
    by : (b : Bool) → eqb v 0 ≡ b → cond b (Err fault.Roots) (noted n m v) ≡ Ok g → Admitted role.LastRoot n m v × (g ≡ max m v)
    by true t f = let z : ◌≡◌ {A = ℕ} 0 1 = cc in absurd (omega arith)
    by false t f =
        let a = noted_ok n m v g f in
        let h : v ≡ 0 → ⊥ = eqb-false v 0 t in
        ((a.0, a.1, grind arith), a.2)

module _ (bs : List ℕ) (ty : Bytes bs) where
  pub number_said : (k at : ℕ) (p : Number) → number_at bs k at ≡ Ok p → (p.value < 2 ^ 32) × (drop at bs ≡ encode p.value ++ drop p.next bs)
  unfolding number_at
  number_said k at p e =
      let c : Canonical bs at (Ok p) = subst (Canonical bs at) (located_ok bs k at (read_at bs at) p e) (canonical bs at ty) in
      (c.0, c.1)

  value_said : (n k : ℕ) (r : Role) (s : State) (v : ℕ) (u : State) → value_at bs n k r s ≡ Ok (v, u) →
      Admitted r n s.0 v × (u.0 ≡ greatest r s.0 v) × (drop s.1 bs ≡ encode v ++ drop u.1 bs)
  unfolding value_at
  value_said n k r s v u e =
      let b = bind_ok (number_at bs k s.1) (λ p. bind (placed s.1 k (judged r n s.0 p.value)) (λ m. Ok (p.value, (m, p.next)))) (v, u) e in
      let c = bind_ok (placed s.1 k (judged r n s.0 b.0.value)) (λ m. Ok (b.0.value, (m, b.0.next))) (v, u) b.2 in
      let q = ok_is (b.0.value, (c.0, b.0.next)) (v, u) c.2 in
      let d = number_said k s.1 b.0 b.1 in
      let j = judged_ok r n s.0 b.0.value c.0 d.0 (placed_ok s.1 k (judged r n s.0 b.0.value) c.0 c.1) in
      subst (λ x. Admitted r n s.0 x.0 × (x.1.0 ≡ greatest r s.0 x.0) × (drop s.1 bs ≡ encode x.0 ++ drop x.1.1 bs)) q (j.0, j.1, d.1)

  pub values_said : (n k : ℕ) (r : ℕ → Role) (i : ℕ) (s : State) (vs : List ℕ) (t : State) → Runs (λ j x. value_at bs n k (r j) x) i s vs t →
      Numbered r n i s.0 vs × (t.0 ≡ greatest_of r i s.0 vs) × (drop s.1 bs ≡ numbers vs ++ drop t.1 bs)
  values_said n k r i s [] t e = (tt, ap (λ x. x.0) (sym e), ap (λ x. drop x.1 bs) e)
  values_said n k r i s (v ∷ vs) t (u, e, more) =
      let a = value_said n k (r i) s v u e in
      let ih = values_said n k r (i + 1) u vs t more in (
        (a.0, subst (λ m. Numbered r n (i + 1) m vs) a.1 ih.0),
        ih.1 ∙ ap (λ m. greatest_of r (i + 1) m vs) a.1,
        a.2 ∙ ap (λ xs. encode v ++ xs) ih.2 ∙ sym (append_assoc (encode v) (numbers vs) (drop t.1 bs)),
      )

  -- an object that was accepted, from the state s to the state u
  abbrev ObjectSaid : Shape → ℕ → ℕ → State → Object → State → Type 0
  ObjectSaid S n k s o u =
      (k ≤ s.0) × (o.header < 2 ^ 32) × (S.legal o.header ≡ true) × (length o.body ≡ S.size o.header - 1)
      × Numbered (body_role S o.header) n 1 s.0 o.body
      × (u.0 ≡ greatest_of (body_role S o.header) 1 s.0 o.body)
      × (drop s.1 bs ≡ object_bytes o ++ drop u.1 bs)

  body_said : (S : Shape) (n k h : ℕ) (s : State) (vs : List ℕ) (t : State) → body_at S bs n k h s ≡ Ok (vs, t) →
      (length vs ≡ S.size h - 1) × Numbered (body_role S h) n 1 s.0 vs × (t.0 ≡ greatest_of (body_role S h) 1 s.0 vs) × (drop s.1 bs ≡ numbers vs ++ drop t.1 bs)
  unfolding body_at
  body_said S n k h s vs t e =
      let r = collect_runs (body_step bs n S k h) (S.size h - 1) 1 s vs t e in
      let v = values_said n k (body_role S h) 1 s vs t r.1 in
      (r.0, v.0, v.1, v.2)

  object_said : (S : Shape) (n k : ℕ) (s : State) (o : Object) (u : State) → object_at S bs n k s ≡ Ok (o, u) → ObjectSaid S n k s o u
  unfolding object_at
  object_said S n k s o u e =
      let due = cond_ok (leb k s.0) _ _ (o, u) e in
      let b = bind_ok (number_at bs k s.1) _ (o, u) due.1 in
      let h = b.0 in
      let l = cond_ok (S.legal h.value) _ _ (o, u) b.2 in
      let c = bind_ok (body_at S bs n k h.value (s.0, h.next)) _ (o, u) l.1 in
      let d = number_said k s.1 h b.1 in
      let y = body_said S n k h.value (s.0, h.next) c.0.0 c.0.1 c.1 in
      let q = ok_is (record { header = h.value; body = c.0.0 }, c.0.1) (o, u) c.2 in
      subst (λ x. ObjectSaid S n k s x.0 x.1) q (
        leb-true k s.0 due.0,
        d.0,
        l.0,
        y.0,
        y.1,
        y.2,
        d.1 ∙ ap (λ xs. encode h.value ++ xs) y.3 ∙ sym (append_assoc (encode h.value) (numbers c.0.0) (drop c.0.1.1 bs)),
      )

  pub objects_said : (S : Shape) (n k : ℕ) (s : State) (os : List Object) (t : State) → Runs (object_step bs n S) k s os t →
      Ordered S n k s.0 os × (drop s.1 bs ≡ objects_bytes os ++ drop t.1 bs)
  objects_said S n k s [] t e = (tt, ap (λ x. drop x.1 bs) e)
  objects_said S n k s (o ∷ os) t (u, e, more) =
      let a = object_said S n k s o u e in
      let ih = objects_said S n (k + 1) u os t more in (
        (a.0, a.1, a.2, a.3, a.4, subst (λ m. Ordered S n (k + 1) m os) a.5 ih.0),
        a.6 ∙ ap (λ xs. object_bytes o ++ xs) ih.1 ∙ sym (append_assoc (object_bytes o) (objects_bytes os) (drop t.1 bs)),
      )
