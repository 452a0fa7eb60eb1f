use Rattle.dsv_generator.proofs.Runs.{runs_found}
use Rattle.dsv_generator.proofs.finding.run_finding.Goals as goal

pub returns-in-Ok : goal.returns-in-Ok
returns-in-Ok c =
    let e = c.overflow_within.ensures in
    let same = c.in_ok-asking.ensures in
    let is = c.in-Ok.is in
    runs_found c.args.quantised.now c.in-Ok.found (rw (same, is) at e.sized) (rw (same, is) at e.never) (rw (same, is) at e.refuted) (rw (same, is) at e.trace) (rw (same, is) at e.spent)
