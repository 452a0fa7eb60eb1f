use Rattle.dsv_base.proofs.TakingLemmas.{writes_after, writes_cut}
use Rattle.dsv_report.specs.Report.{too_long_text}
use Rattle.dsv_report.proofs.stops.put_too_long.Goals as goal

pub returns-in_err-put_place : goal.returns-in_err-put_place
returns-in_err-put_place g c = writes_cut (too_long_text) c.from_residual.ensures.0 c.in_err-put_place.ensures.cut

pub returns : goal.returns
returns g c = writes_after c.in_ok-put_place.ensures.whole c.put_all.ensures
