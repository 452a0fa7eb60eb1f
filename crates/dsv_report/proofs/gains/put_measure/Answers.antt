use Rattle.dsv_base.proofs.TakingLemmas.{writes_after, writes_cut}
use Rattle.dsv_report.specs.Gains.{error_text}
use Rattle.dsv_report.proofs.gains.put_measure.Goals as goal

pub returns-in_err-put_gain : goal.returns-in_err-put_gain
returns-in_err-put_gain g c = writes_cut (error_text c.args.error.now) c.from_residual.ensures.0 c.in_err-put_gain.ensures.cut

pub returns : goal.returns
returns g c = writes_after c.in_ok-put_gain.ensures.whole c.put_error.ensures
