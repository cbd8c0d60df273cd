use Rattle.std.proofs.Common.{◌≡◌, ◌/◌, ◌<◌, length, get_or, ◌∙◌, rules}
use Rattle.std.specs.Simd.{first_chunks}
use Rattle.replay.proofs.Calls.{call_of_four}
use Rattle.replay.proofs.running.call_at.Goals as goal

pub returns : goal.returns
returns c =
    let ws = c.args.calls.now in
    let four = c.in_ok-code.field-0.now in
    let inside : c.args.k < length ws / 4 = search rules in
    let here : four ≡ get_or (first_chunks 4 (length ws / 4) ws) c.args.k four = search rules in
    c.decode.ensures ∙ call_of_four ws c.args.k four inside here
