use Rattle.dsv_base.proofs.TakingLemmas.{writes_after, writes_cut}
use Rattle.dsv_report.specs.Reasons.{value_text}
use Rattle.dsv_report.proofs.reasons.put_bad_value.Goals as goal

pub returns-in_err-put_option_and : goal.returns-in_err-put_option_and
returns-in_err-put_option_and g c = writes_cut (value_text c.args.value.now c.args.values.now) c.from_residual.ensures.0 c.in_err-put_option_and.ensures.cut

pub returns : goal.returns
returns g c = writes_after c.in_ok-put_option_and.ensures.whole c.put_value.ensures
