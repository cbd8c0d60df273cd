-- Objects are shaded one by one: each is marked and becomes pending unless it was marked before. What is marked and not
-- pending stays the same by that, so the weights still hold, and a heap with such marks is sound while marking.
use Rattle.std.proofs.Common.{◌≡◌, ℕ, ◌*◌, ◌<◌, Bool, true, false, cond, not, ◌&&◌, ◌⊎◌, length, get_or, sym, refl, ap, ◌∙◌, subst, inl, inr, true≢false, arith}
use Rattle.layout.specs.Shape.{Shape}
use Rattle.memory.specs.State.{State, with_marks, with_phase}
use Rattle.memory.specs.declared.phase.Phase.{Phase}
use Rattle.memory.specs.declared.phase.Phase.TheVariants.{Idle, Marking, Marked}
use Rattle.std.proofs.lemmas.Bool.{false_from_ne_true}
use Rattle.bitset.specs.Set.{joined}
use Rattle.tables.specs.Marks.{Sets as Marks, shaded}
use Rattle.tables.specs.Regions.{is_free_at}
use Rattle.heap.specs.Sound.{Sound, Vacant, region, size_at}
use Rattle.heap.specs.Effects.{Outside}
use Rattle.heap.specs.Steps.{SameObjects}
use Rattle.heap.proofs.Joined.{joined_has, joined_keeps, joined_is}
use Rattle.heap.proofs.Totals.{held_same}
use Rattle.heap.proofs.Weights.{weight_of}

-- the objects of some set are shaded, and no other
pub record Shades (Named : ℕ → Type 0) (m n : Marks) : Type 0 where
  pub kept : (q : ℕ) → m.marked q ≡ true → n.marked q ≡ true
  pub awaits : (q : ℕ) → m.pending q ≡ true → n.pending q ≡ true
  pub only : (q : ℕ) → n.marked q ≡ true → (m.marked q ≡ true) ⊎ ((n.pending q ≡ true) × Named q)
  pub no_more : (q : ℕ) → n.pending q ≡ true → (m.pending q ≡ true) ⊎ ((m.marked q ≡ false) × (n.marked q ≡ true))
  pub all : (q : ℕ) → Named q → n.marked q ≡ true
  pub weights : n.weights ≡ m.weights

-- none is shaded
pub shades_none : (Named : ℕ → Type 0) (m : Marks) → ((q : ℕ) → Named q → ⊥) → Shades Named m m
shades_none Named m none =
    record { kept = λ q e. e; awaits = λ q e. e; only = λ q e. inl e; no_more = λ q e. inl e; all = λ q e. absurd (none q e); weights = refl }

-- the same set, said in other words; or one more, which was marked already
pub shades_same : {Named Also : ℕ → Type 0} {m n : Marks} → Shades Named m n → ((q : ℕ) → Named q → Also q) → ((q : ℕ) → Also q → n.marked q ≡ true)
    → Shades Also m n
shades_same h more all =
    record {
      kept = h.kept;
      awaits = h.awaits;
      only = λ q e. elim (h.only q e) [ inl u ↦ inl u | inr u ↦ inr (u.0, more q u.1) ];
      no_more = h.no_more;
      all = all;
      weights = h.weights;
    }

-- one more is shaded
pub shades_more : {Named Also : ℕ → Type 0} {m n : Marks} → Shades Named m n → (p : ℕ) → p < 32768 → ((q : ℕ) → Named q → Also q) → Also p
    → ((q : ℕ) → Also q → Named q ⊎ (q ≡ p)) → Shades Also m (shaded n p)
shades_more {Named} {Also} {m} {n} h p low more new either = go (n.marked p) refl
  where
    next : Marks
    next = record { marked = joined 32768 n.marked p; pending = joined 32768 n.pending p; weights = n.weights }

    kept_on : (q : ℕ) → n.marked q ≡ true → joined 32768 n.marked p q ≡ true
    kept_on q e = joined_keeps 32768 n.marked p q low e

    awaits_on : (q : ℕ) → n.pending q ≡ true → joined 32768 n.pending p q ≡ true
    awaits_on q e = joined_keeps 32768 n.pending p q low e

    marks-there : (q : ℕ) → q ≡ p → joined 32768 n.marked p q ≡ true
    marks-there q z = ap (joined 32768 n.marked p) z ∙ joined_has 32768 n.marked p low

    awaits-there : (q : ℕ) → q ≡ p → joined 32768 n.pending p q ≡ true
    awaits-there q z = ap (joined 32768 n.pending p) z ∙ joined_has 32768 n.pending p low

    -- what is marked now was not marked at first, if it was not marked just before
    not_before : n.marked p ≡ false → m.marked p ≡ false
    not_before z = false_from_ne_true _ (λ y. true≢false (sym (h.kept p y) ∙ z))

    fresh : n.marked p ≡ false → Shades Also m next
    fresh z =
        record {
          kept = λ q e. kept_on q (h.kept q e);
          awaits = λ q e. awaits_on q (h.awaits q e);
          only = λ q e. elim (joined_is 32768 n.marked p q e) [
            | inl y ↦ inr (awaits-there q y, subst Also (sym y) new)
            | inr y ↦ elim (h.only q y) [ inl u ↦ inl u | inr u ↦ inr (awaits_on q u.0, more q u.1) ]
          ];
          no_more = λ q e. elim (joined_is 32768 n.pending p q e) [
            | inl y ↦ inr (ap m.marked y ∙ not_before z, marks-there q y)
            | inr y ↦ elim (h.no_more q y) [ inl u ↦ inl u | inr u ↦ inr (u.0, kept_on q u.1) ]
          ];
          all = λ q e. elim (either q e) [ inl y ↦ kept_on q (h.all q y) | inr y ↦ marks-there q y ];
          weights = h.weights;
        }

    go : (b : Bool) → n.marked p ≡ b → Shades Also m (cond b n next)
    go true z = shades_same h more (λ q e. elim (either q e) [ inl y ↦ h.all q y | inr y ↦ ap n.marked y ∙ z ])
    go false z = fresh z

-- one is shaded
pub one_shaded : (m : Marks) (p : ℕ) → p < 32768 → Shades (λ q. q ≡ p) m (shaded m p)
one_shaded m p low = shades_more (shades_none (λ q. ⊥) m (λ q e. e)) p low (λ q e. absurd e) refl (λ q e. inr e)

-- where what is pending is marked, that stays so, and what is marked and not pending is the same
module _ {Named : ℕ → Type 0} {m n : Marks} (h : Shades Named m n) (among : (q : ℕ) → m.pending q ≡ true → m.marked q ≡ true) where
  pub shades_among : (q : ℕ) → n.pending q ≡ true → n.marked q ≡ true
  shades_among q e = elim (h.no_more q e) [ inl u ↦ h.kept q (among q u) | inr u ↦ u.1 ]

  pub shades_scanned : (q : ℕ) → (n.marked q && not (n.pending q)) ≡ (m.marked q && not (m.pending q))
  shades_scanned q = go (m.marked q) (m.pending q) (n.marked q) (n.pending q) (h.kept q) (h.awaits q) (h.only q) (h.no_more q) (among q)
    where
      go : (a b c d : Bool) → (a ≡ true → c ≡ true) → (b ≡ true → d ≡ true) → (c ≡ true → (a ≡ true) ⊎ ((d ≡ true) × Named q))
          → (d ≡ true → (b ≡ true) ⊎ ((a ≡ false) × (c ≡ true))) → (b ≡ true → a ≡ true) → (c && not d) ≡ (a && not b)
      go a b c d kept awaits only no_more in-first = grind arith

-- a marking is under way, with any objects marked and any of these pending, if the weights are those of the marked that are not
pub marking_sound : {S : Shape} {s : State} → Sound S s → (m : Marks)
    → ((p : ℕ) → m.marked p ≡ true → s.starts p ≡ true) → ((p : ℕ) → m.pending p ≡ true → m.marked p ≡ true)
    → length m.weights ≡ 32 → ((g : ℕ) → get_or m.weights g 0 ≡ weight_of S s (λ p. m.marked p && not (m.pending p)) g)
    → Sound S (with_phase (with_marks s m) Marking)
marking_sound {S} {s} h m objects among many each =
    let vacant : (g : ℕ) → is_free_at s.regions.entries g ≡ true → Vacant (with_phase (with_marks s m) Marking) g = λ g e. let v = h.vacant g e in assumption v in
    let settled : (◌≡◌ {A = Phase} Marking Marking → ⊥) → (p : ℕ) → m.pending p ≡ false = λ not p. absurd (not refl) in
    let unmarked : ◌≡◌ {A = Phase} Marking Idle → (p : ℕ) → m.marked p ≡ false = λ idle p. absurd (grind arith) in
    let weighed : ◌≡◌ {A = Phase} Marking Marked → (g : ℕ) → (region s g).live ≡ weight_of S s m.marked g = λ done g. absurd (grind arith) in
    assumption h

-- from marks whose weights hold, objects are shaded
pub shaded_sound : {S : Shape} {s : State} {Named : ℕ → Type 0} {m n : Marks} → Sound S s → Shades Named m n
    → ((p : ℕ) → m.marked p ≡ true → s.starts p ≡ true) → ((p : ℕ) → Named p → s.starts p ≡ true) → ((p : ℕ) → m.pending p ≡ true → m.marked p ≡ true)
    → length m.weights ≡ 32 → ((g : ℕ) → get_or m.weights g 0 ≡ weight_of S s (λ p. m.marked p && not (m.pending p)) g)
    → Sound S (with_phase (with_marks s n) Marking)
shaded_sound {S} {s} {Named} {m} {n} h d objects named among many each =
    marking_sound h n
    (λ p e. elim (d.only p e) [ inl u ↦ objects p u | inr u ↦ named p u.1 ])
    (shades_among d among)
    (ap length d.weights ∙ many)
    (λ g. ap (λ ws. get_or ws g 0) d.weights ∙ each g
    ∙ sym (held_same (λ p. n.marked p && not (n.pending p)) (λ p. m.marked p && not (m.pending p)) (size_at S s) (1024 * g) 1024 (shades_scanned d among)))

-- the objects are as they were, and so is all outside
pub marking-same : (s : State) (m : Marks) → SameObjects s (with_phase (with_marks s m) Marking)
marking-same s m = record { words = refl; starts = refl; roots = refl; fills = λ g. refl }

pub marking_outside : (s : State) (m : Marks) → Outside s (with_phase (with_marks s m) Marking)
marking_outside s m = record { words = λ k l. refl; spare = refl; count = refl }
