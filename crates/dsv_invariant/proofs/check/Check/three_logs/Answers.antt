use Rattle.dsv_invariant.proofs.Causes.{good_by}
use Rattle.dsv_invariant.proofs.check.Check.three_logs.Goals as goal

pub returns-clause-good : goal.returns-clause-good
returns-clause-good c =
    let base = c.in_ok-base.ensures in
    let step = c.in_ok-step.ensures in
    let safe = c.in_ok-safe.ensures in
    good_by c.args.self.now.quantised.now c.args.self.now.conflicts c.args.self.now.candidate.now c.in_ok-base.base c.in_ok-step.step c.in_ok-safe.safe c.args.self.now.realises.quantised c.args.self.now.shaped base.holds step.holds safe.holds base.refuted step.refuted
    safe.refuted
