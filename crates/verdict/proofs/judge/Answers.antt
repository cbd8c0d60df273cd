use Rattle.std.proofs.Common.{◌≡◌, rules}
use Rattle.verdict.specs.declared.Verdict.TheVariants as verdict
use Rattle.verdict.specs.Space.{verdict_of}
use Rattle.verdict.proofs.Space.{verdict_fits, work_list}
use Rattle.verdict.proofs.judge.Goals as goal

pub returns-in-Ok-clause-fits : goal.returns-in-Ok-clause-fits
returns-in-Ok-clause-fits c =
    let value : verdict.Sound c.in-Ok.summary ≡ verdict_of c.args.bytes.now = search rules in
    verdict_fits c.args.bytes.now _ value

pub returns-in-Ok-clause-work_list : goal.returns-in-Ok-clause-work_list
returns-in-Ok-clause-work_list c =
    let q = c.in-Ok.ensures in
    work_list c.args.bytes.now _ q.reads q.exact q.within

pub returns-in-Ok-2-clause-work_list : goal.returns-in-Ok-2-clause-work_list
returns-in-Ok-2-clause-work_list c =
    let q = c.in-Ok.ensures in
    work_list c.args.bytes.now _ q.reads q.exact q.within
