-- Both ways for the whole image: accepted is exactly what is the written form of a well-numbered
-- content. Each stage of `read` was told by `Said` and is had again by `Written`.
use Rattle.std.proofs.Common.{◌≡◌, ℕ, ◌+◌, ◌-◌, ◌^◌, ◌<◌, ◌≤◌, Bool, true, false, cond, ◌&&◌, eqb, ltb, leb, List, [], ◌∷◌, ◌++◌, length, drop, Ok, sym, refl, ap, ◌∙◌, subst, ap₂, append-nil, arith, length-drop}
use Rattle.std.proofs.lemmas.List.{drop_all}
use Rattle.std.proofs.lemmas.Bool.{leb-true, eqb-true, and_parts, ltb-false}
use Rattle.layout.specs.Shape.{Shape, Lawful}
use Rattle.leb128.specs.Number.{encode}
use Rattle.leb128.proofs.Steps.{Bytes}
use Rattle.image.specs.declared.refusals.Fault.TheVariants as fault
use Rattle.image.specs.Content.{Object, Content, numbers, objects_bytes, written}
use Rattle.image.specs.Steps.{bind}
use Rattle.image.specs.Read.{refuse, number_at, start_of, sign_at, counts_at, State, root_role, roots_at, objects_at, finished, read}
use Rattle.image.specs.Numbering.{greatest_of, Numbered, Ordered, WellNumbered, Exact}
use Rattle.image.proofs.Runs.{bind_ok, cond_ok, ok_is, collect_runs, runs_collect}
use Rattle.image.proofs.Stages.{root_step, object_step, sign_ok, counts_ok, read_ok}
use Rattle.image.proofs.Said.{number_said, values_said, objects_said}
use Rattle.image.proofs.Written.{drop_behind, number-written, values_written, objects-written}

start_said : (bs : List ℕ) (at : ℕ) → start_of bs ≡ Ok at → (at ≡ 2) × (bs ≡ 0x43 ∷ 0x4D ∷ drop 2 bs)
start_said [] at e = let z : ◌≡◌ {A = ℕ} 0 1 = cc in absurd (omega arith)
start_said (a ∷ []) at e = let z : ◌≡◌ {A = ℕ} 0 1 = cc in absurd (omega arith)
start_said (a ∷ b ∷ rest) at e =
    let c = cond_ok (eqb a 0x43 && eqb b 0x4D) (Ok 2) (record { fault = fault.Start; place = 0; object = 0 }) at e in
    let d = and_parts (eqb a 0x43) (eqb b 0x4D) c.0 in
    let x = eqb-true a 0x43 d.0 in
    let y = eqb-true b 0x4D d.1 in
    (sym (ok_is 2 at c.1), cc)

finished_said : (bs : List ℕ) (at : ℕ) (x c : Content) → finished bs at x ≡ Ok c → (length bs ≤ at) × (x ≡ c)
finished_said bs at x c e = by (ltb at (length bs)) refl e
  where
    by : (b : Bool) → ltb at (length bs) ≡ b → cond b (refuse fault.LeftOver at 0) (Ok x) ≡ Ok c → (length bs ≤ at) × (x ≡ c)
    by true t f = let z : ◌≡◌ {A = ℕ} 0 1 = cc in absurd (omega arith)
    by false t f = (ltb-false at (length bs) t, ok_is x c f)

-- the lengths that the counts give
pub roots-length : (bs : List ℕ) (n r : ℕ) (s : State) (vs : List ℕ) (t : State) → roots_at bs n r s ≡ Ok (vs, t) → length vs ≡ r
unfolding roots_at
roots-length bs n r s vs t e = (collect_runs (root_step bs n r) r 0 s vs t e).0

pub objects-length : (S : Shape) (bs : List ℕ) (n : ℕ) (s : State) (os : List Object) (t : State) → objects_at S bs n s ≡ Ok (os, t) → length os ≡ n
unfolding objects_at
objects-length S bs n s os t e = (collect_runs (object_step bs n S) n 1 s os t e).0

module _ (S : Shape) (bs : List ℕ) (ty : Bytes bs) where
  sign_said : (at next : ℕ) → sign_at S bs at ≡ Ok next → drop at bs ≡ encode S.sign ++ drop next bs
  sign_said at next e =
      let b = bind_ok (number_at bs 0 at) (λ p. cond (eqb p.value S.sign) (Ok p.next) (refuse fault.Sign at 0)) next e in
      let c = cond_ok (eqb b.0.value S.sign) (Ok b.0.next) (record { fault = fault.Sign; place = at; object = 0 }) next b.2 in
      let v = eqb-true b.0.value S.sign c.0 in
      let x = ok_is b.0.next next c.1 in
      (number_said bs ty 0 at b.0 b.1).1 ∙ ap₂ (λ y z. encode y ++ drop z bs) v x

  counts_said : (at n r next : ℕ) → counts_at bs at ≡ Ok ((n, r), next) → (n < 2 ^ 32) × (r ≤ 64) × (drop at bs ≡ encode n ++ (encode r ++ drop next bs))
  counts_said at n r next e =
      let b = bind_ok (number_at bs 0 at) (λ x. bind (number_at bs 0 x.next) (λ y. cond (leb y.value 64) (Ok ((x.value, y.value), y.next)) (refuse fault.Roots x.next 0))) ((n, r), next) e in
      let c = bind_ok (number_at bs 0 b.0.next) (λ y. cond (leb y.value 64) (Ok ((b.0.value, y.value), y.next)) (refuse fault.Roots b.0.next 0)) ((n, r), next) b.2 in
      let d = cond_ok (leb c.0.value 64) (Ok ((b.0.value, c.0.value), c.0.next)) (record { fault = fault.Roots; place = b.0.next; object = 0 }) ((n, r), next) c.2 in
      let q = ok_is ((b.0.value, c.0.value), c.0.next) ((n, r), next) d.1 in
      let x = number_said bs ty 0 at b.0 b.1 in
      let y = number_said bs ty 0 b.0.next c.0 c.1 in
      subst (λ p. (p.0.0 < 2 ^ 32) × (p.0.1 ≤ 64) × (drop at bs ≡ encode p.0.0 ++ (encode p.0.1 ++ drop p.1 bs))) q
      (x.0, leb-true c.0.value 64 d.0, x.1 ∙ ap (λ xs. encode b.0.value ++ xs) y.1)

  roots_said : (n r : ℕ) (at : ℕ) (vs : List ℕ) (t : State) → roots_at bs n r (0, at) ≡ Ok (vs, t) →
      Numbered (root_role r) n 0 0 vs × (t.0 ≡ greatest_of (root_role r) 0 0 vs) × (drop at bs ≡ numbers vs ++ drop t.1 bs)
  unfolding roots_at
  roots_said n r at vs t e = values_said bs ty n 0 (root_role r) 0 (0, at) vs t (collect_runs (root_step bs n r) r 0 (0, at) vs t e).1

  all_said : (n : ℕ) (s : State) (os : List Object) (t : State) → objects_at S bs n s ≡ Ok (os, t) → Ordered S n 1 s.0 os × (drop s.1 bs ≡ objects_bytes os ++ drop t.1 bs)
  unfolding objects_at
  all_said n s os t e = objects_said bs ty S n 1 s os t (collect_runs (object_step bs n S) n 1 s os t e).1

  -- the stages together
  assembled : (n r a b d : ℕ) (vs : List ℕ) (t : State) (os : List Object) (u : State) → start_of bs ≡ Ok a → sign_at S bs a ≡ Ok b → counts_at bs b ≡ Ok ((n, r), d) →
      roots_at bs n r (0, d) ≡ Ok (vs, t) → objects_at S bs n t ≡ Ok (os, u) → length bs ≤ u.1 →
      WellNumbered S (record { roots = vs; objects = os }) × (bs ≡ written S (record { roots = vs; objects = os }))
  assembled n r a b d vs t os u start sign counts roots objects end =
      let st = start_said bs a start in
      let sg : drop 2 bs ≡ encode S.sign ++ drop b bs = subst (λ x. drop x bs ≡ encode S.sign ++ drop b bs) st.0 (sign_said a b sign) in
      let ct = counts_said b n r d counts in
      let rt = roots_said n r d vs t roots in
      let ob = all_said n t os u objects in
      let ln : length os ≡ n = objects-length S bs n t os u objects in
      let lr : length vs ≡ r = roots-length bs n r (0, d) vs t roots in
      let behind : drop t.1 bs ≡ objects_bytes os = ob.1 ∙ ap (λ xs. objects_bytes os ++ xs) (drop_all u.1 bs end) ∙ append-nil (objects_bytes os) in
      let body : drop b bs ≡ encode (length os) ++ (encode (length vs) ++ (numbers vs ++ objects_bytes os)) =
      ct.2 ∙ ap₂ (λ x y. encode x ++ y) (sym ln) (ap₂ (λ x y. encode x ++ y) (sym lr) (rt.2 ∙ ap (λ xs. numbers vs ++ xs) behind)) in (
        record {
          few_objects = omega (arith, ct.0);
          few_roots = omega (arith, ct.1);
          roots = subst (λ x. Numbered (root_role x) (length os) 0 0 vs) (sym lr) (subst (λ x. Numbered (root_role r) x 0 0 vs) (sym ln) rt.0);
          objects = subst (λ x. Ordered S (length os) 1 (greatest_of (root_role x) 0 0 vs) os) (sym lr) (subst (λ x. Ordered S x 1 (greatest_of (root_role r) 0 0 vs) os) (sym ln) (subst (λ x. Ordered S n 1 x os) rt.1 ob.0));
        },
        st.1 ∙ ap (λ xs. 0x43 ∷ 0x4D ∷ xs) (sg ∙ ap (λ xs. encode S.sign ++ xs) body),
      )

  accepted : (c : Content) → read S bs ≡ Ok c → WellNumbered S c × (bs ≡ written S c)
  unfolding read
  accepted c e =
      let a = bind_ok (start_of bs) _ c e in
      let b = bind_ok (sign_at S bs a.0) _ c a.2 in
      let d = bind_ok (counts_at bs b.0) _ c b.2 in
      let v = bind_ok (roots_at bs d.0.0.0 d.0.0.1 (0, d.0.1)) _ c d.2 in
      let o = bind_ok (objects_at S bs d.0.0.0 v.0.1) _ c v.2 in
      let f = finished_said bs o.0.1.1 (record { roots = v.0.0; objects = o.0.0 }) c o.2 in
      subst (λ x. WellNumbered S x × (bs ≡ written S x)) f.1
      (assembled d.0.0.0 d.0.0.1 a.0 b.0 d.0.1 v.0.0 v.0.1 o.0.0 o.0.1 a.1 b.1 d.1 v.1 o.1 f.0)

module _ (S : Shape) (lawful : Lawful S) (bs : List ℕ) (c : Content) (w : WellNumbered S c) (e : bs ≡ written S c) where
  abbrev n : ℕ
  n = length c.objects

  abbrev r : ℕ
  r = length c.roots

  roots_again : (d : ℕ) (rest : List ℕ) → drop d bs ≡ numbers c.roots ++ rest →
      (t : State) × (roots_at bs n r (0, d) ≡ Ok (c.roots, t)) × (t.0 ≡ greatest_of (root_role r) 0 0 c.roots) × (drop t.1 bs ≡ rest)
  unfolding roots_at
  roots_again d rest f =
      let x = values_written bs n w.few_objects 0 (root_role r) 0 (0, d) c.roots rest w.roots f in
      (x.0, runs_collect (root_step bs n r) 0 (0, d) c.roots x.0 x.1, x.2, x.3)

  objects_again : (s : State) → s.0 ≡ greatest_of (root_role r) 0 0 c.roots → drop s.1 bs ≡ objects_bytes c.objects →
      (t : State) × (objects_at S bs n s ≡ Ok (c.objects, t)) × (drop t.1 bs ≡ [])
  unfolding objects_at
  objects_again s g f =
      let x = objects-written bs n w.few_objects S 1 s c.objects [] (subst (λ m. Ordered S n 1 m c.objects) (sym g) w.objects) (f ∙ sym (append-nil (objects_bytes c.objects))) in
      (x.0, runs_collect (object_step bs n S) 1 s c.objects x.0 x.1, x.2)

  pub written_read : read S bs ≡ Ok c
  written_read =
      let start : start_of bs ≡ Ok 2 = ap start_of e in
      let s0 : drop 2 bs ≡ encode S.sign ++ (encode n ++ (encode r ++ (numbers c.roots ++ objects_bytes c.objects))) = ap (drop 2) e in
      let a : ℕ = 2 + length (encode S.sign) in
      let sign = number-written bs 0 2 S.sign _ (omega (arith, lawful.signed.1)) s0 in
      let s1 = drop_behind 2 bs (encode S.sign) _ s0 in
      let b : ℕ = a + length (encode n) in
      let objects = number-written bs 0 a n _ w.few_objects s1 in
      let s2 = drop_behind a bs (encode n) _ s1 in
      let d : ℕ = b + length (encode r) in
      let roots = number-written bs 0 b r _ (omega (arith, w.few_roots)) s2 in
      let s3 = drop_behind b bs (encode r) _ s2 in
      let rt = roots_again d (objects_bytes c.objects) s3 in
      let ob = objects_again rt.0 rt.2 rt.3 in
      let end : length bs - ob.0.1 ≡ 0 = sym (length-drop ob.0.1 bs) ∙ ap length ob.2 in
      read_ok S bs 2 start a (sign_ok S bs 2 a sign) n r d (counts_ok bs a n b r d objects roots w.few_roots) c.roots rt.0 rt.1 c.objects ob.0 ob.1 (omega arith)

pub exact : (S : Shape) → Lawful S → (bs : List ℕ) → Bytes bs → Exact S bs
exact S lawful bs ty c = (accepted S bs ty c, λ w. written_read S lawful bs c w.0 w.1)
