-- An object that is made in the heap and in the model, under the next number, and goes into the same root, leaves the two tied:
-- nothing names it but that root, and it names nothing.
use Rattle.std.proofs.Common.{◌≡◌, ℕ, suc, true, false, cond, eqb, ◌⊎◌, sym, refl, ap, ◌∙◌, inl, inr, arith}
use Rattle.layout.specs.Shape.{Shape}
use Rattle.std.proofs.lemmas.Bool.Decides.{nat_tests}
use Rattle.std.proofs.lemmas.Bool.{cases_eq}
use Rattle.model.specs.Graph.{Graph, Reach, by_root, by_field}
use Rattle.model.specs.Tied.{Tied}
use Rattle.model.proofs.Changes.{hold, add}

-- the references of a model's objects, and its roots, name objects of it
pub record Closed (S : Shape) (m : Graph) : Type 0 where
  pub roots : (k o : ℕ) → m.root k ≡ suc o → m.node o ≡ true
  pub fields : (o i q : ℕ) → m.node o ≡ true → S.reference (m.head o) i ≡ true → m.field o i ≡ suc q → m.node q ≡ true

-- the numbers of the heap's objects, with n for the new one at p
abbrev pub renumbered : (ℕ → ℕ) → ℕ → ℕ → ℕ → ℕ
renumbered ν p n q = cond (eqb q p) n (ν q)

module _ {S : Shape} {h m : Graph} {ν : ℕ → ℕ} (t : Tied S h m ν) (c : Closed S m) (p n hd k : ℕ) (fp : h.node p ≡ false) (fn : m.node n ≡ false) where
  is : (q : ℕ) → cond (eqb q p) true (h.node q) ≡ true → (q ≡ p) ⊎ (h.node q ≡ true)
  is q e = grind (arith, nat_tests)

  into : (q : ℕ) → h.node q ≡ true → cond (eqb q p) true (h.node q) ≡ true
  into q e = grind (arith, nat_tests)

  apart : (q : ℕ) → h.node q ≡ true → q ≡ p → ⊥
  apart q e a = let z : h.node p ≡ true = rw a at e in grind arith

  num : (q : ℕ) → h.node q ≡ true → ν q ≡ n → ⊥
  num q e a = let z : m.node n ≡ true = rw a at (t.numbered q e) in grind arith

  ν-new : (q : ℕ) → q ≡ p → renumbered ν p n q ≡ n
  ν-new q e = grind (arith, nat_tests)

  ν-old : (q : ℕ) → h.node q ≡ true → renumbered ν p n q ≡ ν q
  ν-old q e = let a = apart q e in grind (arith, nat_tests)

  less : (o : ℕ) → Reach S (hold (add m n hd) k (suc n)) o → (o ≡ n) ⊎ Reach S m o
  less o (by_root j e) = elim (cases_eq j k) [ inl a ↦ inl (grind (arith, nat_tests)) | inr a ↦ inr (by_root j (grind (arith, nat_tests))) ]
  less o (by_field {o = x} i r g e) = elim (cases_eq x n) [
    | inl a ↦ absurd (let z : cond (eqb x n) 0 (m.field x i) ≡ 0 = grind (arith, nat_tests) in omega arith)
    | inr a ↦ elim (less x r) [
      | inl b ↦ absurd (a b)
      | inr b ↦
          (let hx : cond (eqb x n) hd (m.head x) ≡ m.head x = grind (arith, nat_tests) in
          let fx : cond (eqb x n) 0 (m.field x i) ≡ m.field x i = grind (arith, nat_tests) in
          inr (by_field i b (rw hx at g) (sym fx ∙ e)))
    ]
  ]

  pub tied_new : Tied S (hold (add h p hd) k (suc p)) (hold (add m n hd) k (suc n)) (renumbered ν p n)
  tied_new = record {
    numbered = λ q nq. elim (is q nq) [ inl e ↦ grind (arith, nat_tests) | inr a ↦ grind (arith, nat_tests, t.numbered q a) ];
    distinct = λ q r nq nr e. elim (is q nq) [
      | inl a ↦ elim (is r nr) [ inl b ↦ a ∙ sym b | inr b ↦ absurd (num r b (sym (ν-old r b) ∙ sym e ∙ ν-new q a)) ]
      | inr a ↦ elim (is r nr) [ inl b ↦ absurd (num q a (sym (ν-old q a) ∙ e ∙ ν-new r b)) | inr b ↦ t.distinct q r a b (sym (ν-old q a) ∙ e ∙ ν-old r b) ]
    ];
    root_nil = λ j e. grind (arith, nat_tests, t.root_nil j);
    root_there = λ j q e. grind (arith, nat_tests, t.root_there j q);
    root_same = λ j q e. elim (cases_eq j k) [
      | inl a ↦ (let b : p ≡ q = grind (arith, nat_tests) in let d = ν-new q (sym b) in grind (arith, nat_tests))
      | inr a ↦ (let b : h.root j ≡ suc q = grind (arith, nat_tests) in let d = ν-old q (t.root_there j q b) in let f = t.root_same j q b in grind (arith, nat_tests))
    ];
    heads = λ q nq. elim (is q nq) [
      | inl a ↦ grind (arith, nat_tests, ν-new q a)
      | inr a ↦ grind (arith, nat_tests, apart q a, num q a, ν-old q a, t.heads q a)
    ];
    plains = λ q i nq g. elim (is q nq) [
      | inl a ↦ grind (arith, nat_tests, ν-new q a)
      | inr a ↦ grind (arith, nat_tests, apart q a, num q a, ν-old q a, t.plains q i a)
    ];
    there = λ q i r nq g e. elim (is q nq) [ inl a ↦ grind (arith, nat_tests) | inr a ↦ grind (arith, nat_tests, apart q a, t.there q i r a) ];
    same = λ q i r nq g e. elim (is q nq) [
      | inl a ↦ grind (arith, nat_tests)
      | inr a ↦ (let f : S.reference (h.head q) i ≡ true = grind (arith, nat_tests, apart q a) in
          let d : h.field q i ≡ suc r = grind (arith, nat_tests, apart q a) in
          let b = t.there q i r a f d in
          grind (arith, nat_tests, num q a, ν-old q a, ν-old r b, t.same q i r a f d))
    ];
    lost = λ q i r nq g e nr z. elim (is q nq) [
      | inl a ↦ grind (arith, nat_tests, ν-new q a)
      | inr a ↦ (let f : S.reference (h.head q) i ≡ true = grind (arith, nat_tests, apart q a) in
          let d : h.field q i ≡ 0 = grind (arith, nat_tests, apart q a) in
          let y : m.field (ν q) i ≡ suc (renumbered ν p n r) = grind (arith, nat_tests, num q a, ν-old q a) in
          elim (is r nr) [
            | inl b ↦ (let w = c.fields (ν q) i n (t.numbered q a) (rw (t.heads q a) at f) (y ∙ ap suc (ν-new r b)) in grind arith)
            | inr b ↦ t.lost q i r a f d b (y ∙ ap suc (ν-old r b))
          ])
    ];
    found = λ o r. elim (less o r) [
      | inl a ↦ (p, grind (arith, nat_tests), ν-new p refl ∙ sym a)
      | inr a ↦ (let w = t.found o a in (w.0, into w.0 w.1, ν-old w.0 w.1 ∙ w.2))
    ];
  }
