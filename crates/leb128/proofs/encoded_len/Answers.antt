use Rattle.std.proofs.Common.{◌∙◌, arith}
use Rattle.leb128.proofs.Laws.{encode-count, encode-length}
use Rattle.leb128.proofs.encoded_len.Goals as goal

pub returns : goal.returns
returns c =
    let e = c.group_count.ensures ∙ encode-count c.args.value in
    let n = encode-length c.args.value in
    record { length = e; range = (omega arith, omega arith) }
