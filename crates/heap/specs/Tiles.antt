-- Objects that tile the used words of a region.
use Rattle.std.specs.Prelude.{◌≡◌, ℕ, zero, suc, ◌+◌, ◌<◌, ◌≤◌, Bool, true, false, cond, ◌⊎◌}

-- the first `fill` words from `base` on are tiled by objects, which start where `starts` says and have `size` words
pub record Tiles (starts : ℕ → Bool) (size : ℕ → ℕ) (base fill : ℕ) : Type 0 where
  -- where words are used, an object starts at the first
  pub first : 1 ≤ fill → starts base ≡ true
  -- each object has a word at least, and ends within the used words
  pub some : (p : ℕ) → starts p ≡ true → base ≤ p → p < base + 1024 → 1 ≤ size p
  pub ends : (p : ℕ) → starts p ≡ true → base ≤ p → p < base + 1024 → p + size p ≤ base + fill
  -- where it ends, the used words end or another starts
  pub next : (p : ℕ) → starts p ≡ true → base ≤ p → p < base + 1024 → (p + size p ≡ base + fill) ⊎ (starts (p + size p) ≡ true)
  -- none starts inside another
  pub gap : (p k : ℕ) → starts p ≡ true → base ≤ p → p < base + 1024 → p < k → k < p + size p → starts k ≡ false
  -- none starts past the used words
  pub past : (k : ℕ) → base + fill ≤ k → k < base + 1024 → starts k ≡ false

-- the sum of g over the n numbers from a on
unfoldable pub total : (ℕ → ℕ) → ℕ → ℕ → ℕ
total g a zero = 0
total g a (suc n) = total g a n + g (a + n)

-- the words of an object if it is a member, and else none
abbrev pub held_by : (ℕ → Bool) → (ℕ → ℕ) → ℕ → ℕ
held_by f size k = cond (f k) (size k) 0
