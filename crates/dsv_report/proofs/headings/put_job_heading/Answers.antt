use Rattle.dsv_base.proofs.TakingLemmas.{writes_after, writes_cut}
use Rattle.dsv_report.specs.Headings.{heading_view, job_text}
use Rattle.dsv_report.proofs.headings.put_job_heading.Goals as goal

pub returns-in_err-put_all : goal.returns-in_err-put_all
returns-in_err-put_all g c = writes_cut (job_text (heading_view c.args.asked)) c.from_residual.ensures.0 (rw c.text.ensures at c.in_err-put_all.ensures.cut)

pub returns : goal.returns
returns g c = writes_after (rw c.text.ensures at c.in_ok-put_all.ensures.whole) c.put_job.ensures
