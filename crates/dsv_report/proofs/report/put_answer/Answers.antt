use Rattle.std.proofs.Common.{◌++◌}
use Rattle.dsv_base.proofs.TakingLemmas.{writes_after, writes_cut}
use Rattle.dsv_report.specs.Report.{body_text}
use Rattle.dsv_report.proofs.report.put_answer.Goals as goal

pub returns-in_err-put_opening : goal.returns-in_err-put_opening
returns-in_err-put_opening g c = writes_cut (c.args.lines.now ++ body_text c.args.answer.now) c.from_residual.ensures.0 c.in_err-put_opening.ensures.cut

pub returns : goal.returns
returns g c = writes_after c.in_ok-put_opening.ensures.whole c.put_rest.ensures
