use Rattle.std.proofs.Common.{◌++◌}
use Rattle.dsv_base.proofs.TakingLemmas.{writes_after, writes_cut}
use Rattle.dsv_command.specs.Table.{kind_of}
use Rattle.dsv_command.specs.Views.{files_view, task_view}
use Rattle.dsv_report.specs.Headings.{subject_text, extent_text}
use Rattle.dsv_report.proofs.headings.put_job.Goals as goal

pub returns-in_err-put_asked : goal.returns-in_err-put_asked
returns-in_err-put_asked g c =
    let job = c.args.asked.job.now in
    writes_cut (subject_text (files_view job.files) job.design c.args.asked.states ++ extent_text (kind_of (files_view job.files)) (task_view job.task))
    c.from_residual.ensures.0 (rw c.property_of.ensures at c.in_err-put_asked.ensures.cut)

pub returns-in_err-put_subject : goal.returns-in_err-put_subject
returns-in_err-put_subject g c =
    let job = c.args.asked.job.now in
    writes_after (rw c.property_of.ensures at c.in_ok-put_asked.ensures.whole)
    (writes_cut (extent_text (kind_of (files_view job.files)) (task_view job.task)) c.from_residual-in_err-put_subject.ensures.0 (rw c.into.ensures at c.in_err-put_subject.ensures.cut))

pub returns : goal.returns
returns g c =
    writes_after (rw c.property_of.ensures at c.in_ok-put_asked.ensures.whole)
    (writes_after (rw c.into.ensures at c.in_ok-put_subject.ensures.whole) c.put_extent.ensures)
