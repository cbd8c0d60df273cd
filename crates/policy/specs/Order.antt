-- Policies: orders on the summaries of regions.
use Rattle.std.specs.Prelude.{◌≡◌, Bool, true, false, not, ◌≢◌}
use Rattle.policy.specs.declared.Summary.{Summary}

-- The laws of every policy. `before a b` says whether a comes before b.
pub record Ordered (before : Summary → Summary → Bool) : Type 0 where
  -- none comes before itself
  pub irreflexive : (a : Summary) → before a a ≡ false
  -- of two with different regions exactly one comes before the other
  pub decided : (a b : Summary) → (a.region ≢ b.region) → before b a ≡ not (before a b)
  -- what comes before a second that comes before a third, comes before the third
  pub transitive : (a b c : Summary) → before a b ≡ true → before b c ≡ true → before a c ≡ true
