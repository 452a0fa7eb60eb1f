use Rattle.dsv_base.proofs.TakingLemmas.{writes_after, writes_cut}
use Rattle.dsv_report.specs.Report.{body_text}
use Rattle.dsv_report.proofs.report.put_rest.Goals as goal

pub returns-in_err-put_all : goal.returns-in_err-put_all
returns-in_err-put_all g c = writes_cut (body_text c.args.answer.now) c.from_residual.ensures.0 c.in_err-put_all.ensures.cut

pub returns : goal.returns
returns g c = writes_after c.in_ok-put_all.ensures.whole c.put_body.ensures
