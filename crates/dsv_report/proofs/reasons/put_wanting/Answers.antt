use Rattle.dsv_base.proofs.TakingLemmas.{writes_after, writes_cut}
use Rattle.std.specs.Prelude.{◌++◌, codes}
use Rattle.dsv_report.specs.Reasons.{option_text}
use Rattle.dsv_report.proofs.reasons.put_wanting.Goals as goal

pub returns-in_err-put_option_and : goal.returns-in_err-put_option_and
returns-in_err-put_option_and g c = writes_cut (option_text c.args.other.now ++ codes "\n") c.from_residual.ensures.0 c.in_err-put_option_and.ensures.cut

pub returns : goal.returns
returns g c = writes_after c.in_ok-put_option_and.ensures.whole c.put_option_and-2.ensures
