-- The numbers of roots.
use Rattle.std.specs.Prelude.{ℕ, cond, Ok, Err, Result, nat_lt}
use Rattle.model.specs.declared.edits.Refusal.{Refusal}
use Rattle.model.specs.declared.edits.Refusal.TheVariants.{RootAbove63}

-- the index of a root: the roots are 0 to 63
abbrev pub index_of : ℕ → Result ℕ Refusal
index_of root = cond (nat_lt root 64) (Ok root) (Err RootAbove63)
