use Rattle.std.proofs.Common.{rules}
use Rattle.dsv_invariant.specs.Causes.{IsShaped}
use Rattle.dsv_invariant.proofs.Causes.{never_breaks}
use Rattle.dsv_certcheck.proofs.CheckLemmas.{on_ok_three}
use Rattle.dsv_certcheck.proofs.checked_logs.check_set.Goals as goal

pub returns-clause-shows : goal.returns-clause-shows
returns-clause-shows c =
    let q = c.args.quantised.now in
    let candidate = c.args.candidate.now in
    let shaped : IsShaped q candidate = search rules in
    let e = c.check_logs.ensures in
    on_ok_three c.check_logs.result (λ base step safe. never_breaks q candidate c.order.ensures.quantised shaped base step safe) e.base e.step e.safe
