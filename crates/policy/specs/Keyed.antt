-- Orders by one number of a summary, its key.
use Rattle.std.specs.Prelude.{ℕ, Bool, ◌&&◌, ◌||◌, ◌==◌, nat_lt}
use Rattle.policy.specs.declared.Summary.{Summary}

-- the key k and region r come before the key l and region s: the smaller key first, at equal keys the lower region
abbrev pub key_lower : ℕ → ℕ → ℕ → ℕ → Bool
key_lower k r l s = nat_lt k l || (k == l && nat_lt r s)

-- the order by a key
abbrev pub by_key : (Summary → ℕ) → Summary → Summary → Bool
by_key key a b = key_lower (key a) a.region (key b) b.region
