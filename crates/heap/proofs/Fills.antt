-- The used words of a region are those of its objects: going up from the base, the words of the objects passed so far reach
-- just to the end of the last of them. So the words of some of its objects are at most those in use.
use Rattle.std.proofs.Common.{◌≡◌, ℕ, zero, suc, ◌+◌, ◌-◌, ◌*◌, ◌<◌, ◌≤◌, Bool, true, false, cond, ◌⊎◌, sym, refl, ap, subst, inl, inr, arith}
use Rattle.layout.specs.Shape.{Shape}
use Rattle.memory.specs.State.{State}
use Rattle.std.proofs.lemmas.Bool.{cases_eq, cases_lt}
use Rattle.heap.specs.Sound.{Sound, region, size_at}
use Rattle.heap.specs.Tiles.{Tiles, total, held_by}
use Rattle.heap.proofs.Geometry.{fill_most}
use Rattle.heap.proofs.Totals.{total-none, total_more}
use Rattle.heap.proofs.Weights.{weight_of}

-- no members
pub held_none : (f : ℕ → Bool) (size : ℕ → ℕ) (a n : ℕ) → ((k : ℕ) → f k ≡ false) → total (held_by f size) a n ≡ 0
unfolding total
held_none f size a zero none = refl
held_none f size a (suc n) none =
    let here : held_by f size (a + n) ≡ 0 = ap (λ b. cond b (size (a + n)) 0) (none (a + n)) in
    omega (arith, held_none f size a n none)

-- some of the members
pub held_within : (f g : ℕ → Bool) (size : ℕ → ℕ) (a n : ℕ) → ((k : ℕ) → f k ≡ true → g k ≡ true) → total (held_by f size) a n ≤ total (held_by g size) a n
unfolding total
held_within f g size a zero among = omega arith
held_within f g size a (suc n) among = omega (arith, held_within f g size a n among, go (size (a + n)) (f (a + n)) (g (a + n)) (among (a + n)))
  where
    go : (x : ℕ) (b c : Bool) → (b ≡ true → c ≡ true) → cond b x 0 ≤ cond c x 0
    go x b c y = grind arith

held_tells : (f : ℕ → Bool) (size : ℕ → ℕ) (k : ℕ) → ((f k ≡ true) × (held_by f size k ≡ size k)) ⊎ ((f k ≡ false) × (held_by f size k ≡ 0))
held_tells f size k = grind arith

module _ {starts : ℕ → Bool} {size : ℕ → ℕ} {base fill : ℕ} (t : Tiles starts size base fill) (room : fill ≤ 1024) where
  -- after j words the objects that start in them have s words
  record Upto (j s : ℕ) : Type 0 where
    ahead : j ≤ s
    within : s ≤ fill
    void : (k : ℕ) → base + j ≤ k → k < base + s → starts k ≡ false
    end : (s ≡ fill) ⊎ (starts (base + s) ≡ true)

  upto : (j : ℕ) → j ≤ fill → Upto j (total (held_by starts size) base j)
  upto zero h =
      subst (Upto 0) (sym (total-none (held_by starts size) base))
      (record { ahead = omega arith; within = omega arith; void = λ k l u. absurd (omega arith); end = first })
    where
      first : (0 ≡ fill) ⊎ (starts (base + 0) ≡ true)
      first = elim (cases_eq fill 0) [ inl z ↦ inl (omega arith) | inr z ↦ inr (let e : base + 0 ≡ base = omega arith in rw e (t.first (omega arith))) ]
  upto (suc j) h = subst (Upto (suc j)) (sym (total_more (held_by starts size) base j)) (step (total (held_by starts size) base j) (upto j (omega arith)))
    where
      step : (s : ℕ) → Upto j s → Upto (suc j) (s + held_by starts size (base + j))
      step s u = elim (held_tells starts size (base + j)) [ inl x ↦ rw x.1 (at x.0) | inr x ↦ rw x.1 (off x.0) ]
        where
          at : starts (base + j) ≡ true → Upto (suc j) (s + size (base + j))
          at y =
              let e : s ≡ j = elim (cases_eq s j) [ inl q ↦ q | inr q ↦ absurd (let z = u.void (base + j) (omega arith) (omega (arith, u.ahead)) in grind arith) ] in
              let n = t.next (base + j) y (omega arith) (omega arith) in
              let l = t.ends (base + j) y (omega arith) (omega arith) in
              let m = t.some (base + j) y (omega arith) (omega arith) in
              let r : base + (s + size (base + j)) ≡ base + j + size (base + j) = omega arith in
              record {
                ahead = omega arith;
                within = omega arith;
                void = λ k a b. t.gap (base + j) k y (omega arith) (omega arith) (omega arith) (omega arith);
                end = elim n [ inl z ↦ inl (omega arith) | inr z ↦ inr (rw r z) ];
              }

          off : starts (base + j) ≡ false → Upto (suc j) (s + 0)
          off y =
              let e : s + 0 ≡ s = omega arith in
              let ne : s ≡ j → ⊥ = λ q. elim u.end [ inl z ↦ omega arith | inr z ↦ let w : starts (base + j) ≡ true = rw q at z in grind arith ] in
              rw e (record { ahead = omega (arith, u.ahead); within = u.within; void = λ k a b. u.void k (omega arith) b; end = u.end })

  past_fill : (n : ℕ) → fill + n ≤ 1024 → total (held_by starts size) base (fill + n) ≡ fill
  past_fill zero h = let e : fill + 0 ≡ fill = omega arith in rw e (omega (arith, (upto fill (omega arith)).ahead, (upto fill (omega arith)).within))
  past_fill (suc n) h =
      let e : fill + suc n ≡ suc (fill + n) = omega arith in
      let z : held_by starts size (base + (fill + n)) ≡ 0 = ap (λ b. cond b (size (base + (fill + n))) 0) (t.past (base + (fill + n)) (omega arith) (omega arith)) in
      rw e (omega (arith, total_more (held_by starts size) base (fill + n), past_fill n (omega arith)))

  pub tiles_fill : total (held_by starts size) base 1024 ≡ fill
  tiles_fill = let e : fill + (1024 - fill) ≡ 1024 = omega arith in rw e at (past_fill (1024 - fill) (omega arith))

module _ {S : Shape} {s : State} (h : Sound S s) where
  -- the words of all objects of a region are its used words
  pub objects_fill : (g : ℕ) → weight_of S s s.starts g ≡ (region s g).fill
  objects_fill g = tiles_fill (h.tiled g) (fill_most h g)

  -- those of some are no more
  pub weight_within : (f : ℕ → Bool) → ((k : ℕ) → f k ≡ true → s.starts k ≡ true) → (g : ℕ) → weight_of S s f g ≤ (region s g).fill
  weight_within f objects g = omega (arith, held_within f s.starts (size_at S s) (1024 * g) 1024 objects, objects_fill g)

-- of two sets the one with fewer words lacks a member of the other
pub lacks_one : (f g : ℕ → Bool) (size : ℕ → ℕ) (a n : ℕ) → total (held_by g size) a n < total (held_by f size) a n
    → (p : ℕ) × (a ≤ p) × (p < a + n) × (f p ≡ true) × (g p ≡ false)
lacks_one f g size a zero l = absurd (omega (arith, total-none (held_by f size) a))
lacks_one f g size a (suc n) l = elim (cases_lt (total (held_by g size) a n) (total (held_by f size) a n)) [
  | inl k ↦ (let w = lacks_one f g size a n k in (w.0, w.1, omega (arith, w.2), w.3, w.4))
  | inr k ↦ go (f (a + n)) refl (g (a + n)) refl (omega (arith, total_more (held_by f size) a n, total_more (held_by g size) a n))
]
  where
    go : (b : Bool) → f (a + n) ≡ b → (c : Bool) → g (a + n) ≡ c → held_by g size (a + n) < held_by f size (a + n)
        → (p : ℕ) × (a ≤ p) × (p < a + suc n) × (f p ≡ true) × (g p ≡ false)
    go true e false d k = (a + n, omega arith, omega arith, e, d)
    go true e true d k = absurd (let y : held_by g size (a + n) ≡ size (a + n) = ap (λ b. cond b (size (a + n)) 0) d in let z : held_by f size (a + n) ≡ size (a + n) = ap (λ b. cond b (size (a + n)) 0) e in omega arith)
    go false e c d k = absurd (let z : held_by f size (a + n) ≡ 0 = ap (λ b. cond b (size (a + n)) 0) e in omega arith)
