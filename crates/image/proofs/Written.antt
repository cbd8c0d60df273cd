-- The other way: where the bytes from a place on begin with the written form of something well
-- numbered, reading there gives it and stops behind it.
use Rattle.std.proofs.Common.{◌≡◌, ℕ, ◌+◌, ◌-◌, ◌^◌, ◌<◌, ◌≤◌, max, ◌&&◌, eqb, leb, List, [], ◌∷◌, ◌++◌, length, drop, Ok, Err, sym, refl, ap, ◌∙◌, subst, append_assoc, arith}
use lib.Seq.{drop-append_seam}
use Rattle.std.proofs.lemmas.List.{drop-drop}
use Rattle.std.proofs.lemmas.Bool.{le-leb, ne_eqb, and_from, cond-true, cond-false}
use Rattle.layout.specs.Shape.{Shape}
use Rattle.leb128.specs.Number.{encode}
use Rattle.leb128.proofs.Laws.{reads_back}
use Rattle.image.specs.declared.refusals.Fault.TheVariants as fault
use Rattle.image.specs.declared.strict.Role.{Role}
use Rattle.image.specs.declared.strict.Role.TheVariants as role
use Rattle.image.specs.Content.{Object, numbers, object_bytes, objects_bytes}
use Rattle.image.specs.Steps.{collect}
use Rattle.image.specs.Read.{number_at, noted, judged, State, value_at, body_role, body_at}
use Rattle.image.specs.Numbering.{Admitted, greatest, greatest_of, Numbered, Ordered}
use Rattle.image.proofs.Numbers.{number_ok}
use Rattle.image.proofs.Runs.{Runs, runs_collect}
use Rattle.image.proofs.Stages.{value_ok, body_step, object_step, object_ok}

pub drop_behind : (at : ℕ) (bs xs rest : List ℕ) → drop at bs ≡ xs ++ rest → drop (at + length xs) bs ≡ rest
drop_behind at bs xs rest e = sym (drop-drop (length xs) at bs) ∙ ap (drop (length xs)) e ∙ drop-append_seam xs rest

noted_is : (n m v : ℕ) → v ≤ n → v ≤ m + 1 → noted n m v ≡ Ok (max m v)
noted_is n m v a b = cond-true (leb v n && leb v (m + 1)) (Ok (max m v)) (Err fault.Reference) (and_from (leb v n) (leb v (m + 1)) (le-leb v n a) (le-leb v (m + 1) b))

judged_is : (r : Role) (n m v : ℕ) → Admitted r n m v → judged r n m v ≡ Ok (greatest r m v)
judged_is role.Plain n m v a = refl
judged_is role.Reference n m v a = noted_is n m v a.0 a.1
judged_is role.LastRoot n m v a =
    cond-false (eqb v 0) (Err fault.Roots) (noted n m v) (ne_eqb v 0 (λ z. omega (arith, a.2))) ∙ noted_is n m v a.0 a.1

small : (r : Role) (n m v : ℕ) → n < 2 ^ 32 → Admitted r n m v → v < 2 ^ 32
small role.Plain n m v l a = a
small role.Reference n m v l a = omega (arith, a.0)
small role.LastRoot n m v l a = omega (arith, a.0)

module _ (bs : List ℕ) where
  -- a number that is written at a place
  pub number-written : (k at v : ℕ) (rest : List ℕ) → v < 2 ^ 32 → drop at bs ≡ encode v ++ rest →
      number_at bs k at ≡ Ok (record { value = v; next = at + length (encode v) })
  number-written k at v rest l e = number_ok bs k at _ (sym (reads_back bs at v rest l e))

  module _ (n : ℕ) (few : n < 2 ^ 32) where
    pub values_written : (k : ℕ) (r : ℕ → Role) (i : ℕ) (s : State) (vs rest : List ℕ) → Numbered r n i s.0 vs → drop s.1 bs ≡ numbers vs ++ rest →
        (t : State) × Runs (λ j x. value_at bs n k (r j) x) i s vs t × (t.0 ≡ greatest_of r i s.0 vs) × (drop t.1 bs ≡ rest)
    values_written k r i s [] rest a e = (s, refl, refl, e)
    values_written k r i s (v ∷ vs) rest a e =
        let f : drop s.1 bs ≡ encode v ++ (numbers vs ++ rest) = e ∙ append_assoc (encode v) (numbers vs) rest in
        let u : State = (greatest (r i) s.0 v, s.1 + length (encode v)) in
        let ih = values_written k r (i + 1) u vs rest a.1 (drop_behind s.1 bs (encode v) (numbers vs ++ rest) f) in (
          ih.0,
          (u, value_ok bs n k (r i) s.0 s.1 _ _ (number-written k s.1 v (numbers vs ++ rest) (small (r i) n s.0 v few a.0) f) (judged_is (r i) n s.0 v a.0), ih.1),
          ih.2,
          ih.3,
        )

    body-written : (S : Shape) (k h : ℕ) (s : State) (vs rest : List ℕ) → length vs ≡ S.size h - 1 → Numbered (body_role S h) n 1 s.0 vs → drop s.1 bs ≡ numbers vs ++ rest →
        (t : State) × (body_at S bs n k h s ≡ Ok (vs, t)) × (t.0 ≡ greatest_of (body_role S h) 1 s.0 vs) × (drop t.1 bs ≡ rest)
    unfolding body_at
    body-written S k h s vs rest l a e =
        let w = values_written k (body_role S h) 1 s vs rest a e in
        (w.0, ap (λ c. collect (body_step bs n S k h) 1 c s) (sym l) ∙ runs_collect (body_step bs n S k h) 1 s vs w.0 w.1, w.2, w.3)

    pub objects-written : (S : Shape) (k : ℕ) (s : State) (os : List Object) (rest : List ℕ) → Ordered S n k s.0 os → drop s.1 bs ≡ objects_bytes os ++ rest →
        (t : State) × Runs (object_step bs n S) k s os t × (drop t.1 bs ≡ rest)
    objects-written S k s [] rest a e = (s, refl, e)
    objects-written S k s (o ∷ os) rest (due, wide, legal, long, numbered, more) e =
        let f : drop s.1 bs ≡ encode o.header ++ (numbers o.body ++ (objects_bytes os ++ rest)) =
        e ∙ append_assoc (object_bytes o) (objects_bytes os) rest ∙ append_assoc (encode o.header) (numbers o.body) (objects_bytes os ++ rest) in
        let next : ℕ = s.1 + length (encode o.header) in
        let b = body-written S k o.header (s.0, next) o.body (objects_bytes os ++ rest) long numbered (drop_behind s.1 bs (encode o.header) _ f) in
        let ih = objects-written S (k + 1) b.0 os rest (subst (λ m. Ordered S n (k + 1) m os) (sym b.2) more) b.3 in (
          ih.0,
          (b.0, object_ok S bs n k s.0 s.1 due o.header next (number-written k s.1 o.header _ wide f) legal (o.body, b.0) b.1, ih.1),
          ih.2,
        )
