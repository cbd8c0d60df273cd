use Rattle.std.proofs.Common.{ℕ, ◌+◌, ◌-◌, ◌*◌, ◌^◌, ◌<◌, ◌≤◌, get_or, Ok, arith, rules}
use Rattle.leb128.proofs.Steps.{follow_rest, follow_fits}
use Rattle.leb128.proofs.+read_following.Goals as goal
use Rattle.leb128.proofs.+read_following.Goals.{then-left-eq0+else-byte-gt-MOST_OF_FIFTH, else-left-eq0}

-- what the byte with its top bit set and the bytes after it come to, as numbers that fit
fits : (t : ℕ) (c : goal.After-from-in-len1-up-3 t) →
    (get_or c.args.bytes.now 0 0 - 128 + 128 * c.in_ok-value-in-len1-up-3.value < 2 ^ 32) × (c.in_ok-value-in-len1-up-3.length + 1 ≤ 5)
fits t c =
    let up : 0 < c.args.left = elim c.if-left-eq0.branch [ then-left-eq0+else-byte-gt-MOST_OF_FIFTH w ↦ absurd (omega arith) | else-left-eq0 w ↦ omega arith ] in
    let whole = follow_rest c.args.bytes.now c.args.left (Ok (c.in_ok-value-in-len1-up-3.value, c.in_ok-value-in-len1-up-3.length)) (search rules) (omega arith) up c.in_ok-value-in-len1-up-3.ensures in
    follow_fits c.args.bytes.now c.args.left _ _ (λ i. omega (arith, c.type_inv.bytes i)) c.requires whole

pub overflow_mul-result : goal.overflow_mul-result
overflow_mul-result t c = omega (arith, (fits t c).0)

pub overflow_add-result : goal.overflow_add-result
overflow_add-result t c = omega (arith, (fits t c).0)

pub overflow_add-result-in-len1-up-3 : goal.overflow_add-result-in-len1-up-3
overflow_add-result-in-len1-up-3 t c = omega (arith, (fits t c).1)
