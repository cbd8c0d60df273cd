use Rattle.std.proofs.Common.{◌≡◌, ℕ, ◌+◌, ◌≤◌, length, ◌∙◌, arith}
use Rattle.leb128.specs.Number.{encode}
use Rattle.leb128.proofs.Laws.{replaced_is}
use Rattle.leb128.proofs.write.Goals as goal

-- the written form fits where as many bytes do
fits : (at value size room : ℕ) → size ≡ length (encode value) → at + size ≤ room → at + length (encode value) ≤ room
fits at value size room e h = omega arith

pub write_groups-requires-clause-room : goal.write_groups-requires-clause-room
unfolding encode
write_groups-requires-clause-room c = fits c.args.at c.args.value _ _ c.encoded_len.ensures.length (omega (arith, c.in_ok-next.ensures))

pub returns : goal.returns
unfolding encode
returns c =
    let room = fits c.args.at c.args.value _ (length c.args.out.now) c.encoded_len.ensures.length (omega (arith, c.in_ok-next.ensures)) in (
      omega (arith, c.encoded_len.ensures.length, c.in_ok-next.ensures),
      omega arith,
      c.write_groups.ensures ∙ replaced_is (encode c.args.value) c.args.out.now c.args.at room,
    )
