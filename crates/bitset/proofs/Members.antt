-- The bound of a bit set, which its type fixes: it has no word past its last, so no number at or past 64 times their number
-- is a member.
use Rattle.std.proofs.Common.{◌≡◌, ℕ, ◌*◌, ◌^◌, ◌<◌, min, true, ⊎_elim, arith}
use Rattle.std.proofs.lemmas.Bool.{cases_lt}
use Rattle.bitset.specs.Members.{members}
use Rattle.bitset.specs.Set.{Bounded}
use Rattle.bitset.specs.declared.bits.BitSet.{BitSet}
use Rattle.bitset.proofs.Lists.{list_bounded, list_reach}
use Rattle.bitset.proofs.Set.{member_below}

pub members_bounded : {n : ℕ} (s : BitSet n) → Bounded (64 * n) (members s)
unfolding members
members_bounded s k h = list_bounded s.words k (omega (arith, s.len))

pub members_below : {n : ℕ} (s : BitSet n) (i : ℕ) → members s i ≡ true → i < 64 * n
members_below {n} s i e = member_below (members s) (64 * n) i (members_bounded s) e

-- the words whose numbers fit 64 bits have all members
pub members_reach : {n : ℕ} (s : BitSet n) (m : ℕ) → m ≡ min n (2 ^ 58) → Bounded (64 * m) (members s)
unfolding members
members_reach {n} s m e k h =
    ⊎_elim (λ l. members_bounded s k (omega arith)) (λ l. list_reach s.words k (omega arith)) (cases_lt n (2 ^ 58))
