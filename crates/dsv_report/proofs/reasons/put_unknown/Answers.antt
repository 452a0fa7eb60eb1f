use Rattle.dsv_base.proofs.TakingLemmas.{writes_after, writes_cut}
use Rattle.std.specs.Prelude.{codes}
use Rattle.dsv_report.proofs.reasons.put_unknown.Goals as goal

pub returns-in_err-put_shown : goal.returns-in_err-put_shown
returns-in_err-put_shown g c = writes_cut (codes ": there is no such option\n") c.from_residual.ensures.0 c.in_err-put_shown.ensures.cut

pub returns : goal.returns
returns g c = writes_after c.in_ok-put_shown.ensures.whole c.put_all.ensures
