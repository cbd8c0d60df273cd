use Rattle.std.proofs.Common.{length, ap, ◌∙◌}
use Rattle.std.specs.Option.{unwrap_or}
use Rattle.saving.proofs.Meeting.{place_found}
use Rattle.saving.proofs.numbering.place_of.Goals as goal

pub returns-clause-place : goal.returns-clause-place
returns-clause-place c =
    c.unwrap_or.ensures ∙ ap (λ r. unwrap_or r (length c.args.entries.now)) c.position_of.ensures ∙ place_found c.args.reference c.args.entries.now
