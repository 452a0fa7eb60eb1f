use Rattle.dsv_base.proofs.TakingLemmas.{writes_after, writes_cut}
use Rattle.std.specs.Prelude.{codes}
use Rattle.dsv_report.specs.Reasons.{allowed_text}
use Rattle.dsv_report.proofs.reasons.put_lacking.Goals as goal

pub returns-in_err-put_option : goal.returns-in_err-put_option
returns-in_err-put_option g c = writes_cut (allowed_text (codes " wants a value: ") c.args.values.now) c.from_residual.ensures.0 c.in_err-put_option.ensures.cut

pub returns : goal.returns
returns g c = writes_after c.in_ok-put_option.ensures.whole c.put_allowed.ensures
