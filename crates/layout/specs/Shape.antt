-- Layouts: what the header of an object says of the object.
use Rattle.std.specs.Prelude.{◌≡◌, ℕ, ◌<◌, ◌≤◌, Bool, true, false, not, ◌&&◌, nat_le, nat_lt}

-- What a layout says of a header.
pub record Shape : Type 0 where
  -- the sign that images of the layout carry
  pub sign : ℕ
  -- a header that is legal
  pub sample : ℕ
  -- whether a header is legal
  pub legal : ℕ → Bool
  -- the words of an object under a header, the header included
  pub size : ℕ → ℕ
  -- whether, under a header, a position holds a reference
  pub reference : ℕ → ℕ → Bool

-- The laws of every layout.
pub record Lawful (s : Shape) : Type 0 where
  -- an object under a legal header has at least its header
  pub least : (h : ℕ) → s.legal h ≡ true → 1 ≤ s.size h
  -- no object has more than 64 words
  pub most : (h : ℕ) → s.size h ≤ 64
  -- under a header that is not legal there is no word
  pub illegal : (h : ℕ) → s.legal h ≡ false → s.size h ≡ 0
  -- a reference stands after the header and within the object
  pub inside : (h p : ℕ) → s.reference h p ≡ true → (1 ≤ p) × (p < s.size h)
  -- the sample is legal
  pub sampled : s.legal s.sample ≡ true
  -- the sign is from 1 to 127
  pub signed : (1 ≤ s.sign) × (s.sign ≤ 127)

-- whether, under a header, a position holds a plain word: one of the object after the header that is no reference
abbrev pub plain : Shape → ℕ → ℕ → Bool
plain s h p = nat_le 1 p && (nat_lt p (s.size h) && not (s.reference h p))
