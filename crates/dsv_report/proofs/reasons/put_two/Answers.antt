use Rattle.dsv_base.proofs.TakingLemmas.{writes_after, writes_cut}
use Rattle.dsv_report.proofs.reasons.put_two.Goals as goal

pub returns-in_err-put_all : goal.returns-in_err-put_all
returns-in_err-put_all g c = writes_cut (c.args.rest.now) c.from_residual.ensures.0 c.in_err-put_all.ensures.cut

pub returns : goal.returns
returns g c = writes_after c.in_ok-put_all.ensures.whole c.put_all-2.ensures
