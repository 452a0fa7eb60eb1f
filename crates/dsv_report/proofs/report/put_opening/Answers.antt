use Rattle.dsv_base.proofs.TakingLemmas.{writes_after, writes_err, cut_more}
use Rattle.dsv_report.specs.Report.{certified_text}
use Rattle.dsv_report.proofs.report.put_opening.Goals as goal

pub returns-in_err-put_heading : goal.returns-in_err-put_heading
returns-in_err-put_heading g c = writes_err c.from_residual.ensures.0 (cut_more (certified_text c.args.answer.now) (rw c.verdict_of.ensures at c.in_err-put_heading.ensures.cut))

pub returns : goal.returns
returns g c = writes_after (rw c.verdict_of.ensures at c.in_ok-put_heading.ensures.whole) c.put_certified.ensures
