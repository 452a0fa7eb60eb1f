use Rattle.std.proofs.Common.{rules}
use Rattle.dsv_invariant.specs.Causes.{IsShaped}
use Rattle.dsv_invariant.proofs.Causes.{cause_by}
use Rattle.dsv_invariant.proofs.check.check_candidate.Goals as goal

pub returns-in-Err-Found : goal.returns-in-Err-Found
returns-in-Err-Found c =
    let q = c.args.asking.now.subject.now in
    let candidate = c.args.candidate.now in
    let shaped : IsShaped q candidate = search rules in
    record { cause = cause_by q c.args.conflicts candidate c.in-Err-Found.why shaped (rw c.in-Err-Found.field-0-is at c.in-Err-Found.ensures.found) }
