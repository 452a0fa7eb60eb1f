use Rattle.dsv_base.proofs.TakingLemmas.{writes_after, writes_cut}
use Rattle.dsv_report.proofs.reasons.put_option_and.Goals as goal

pub returns-in_err-put_option : goal.returns-in_err-put_option
returns-in_err-put_option g c = writes_cut (c.args.rest.now) c.from_residual.ensures.0 c.in_err-put_option.ensures.cut

pub returns : goal.returns
returns g c = writes_after c.in_ok-put_option.ensures.whole c.put_all.ensures
