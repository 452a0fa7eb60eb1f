use Rattle.std.proofs.Common.{◌++◌}
use Rattle.std.specs.List.{flat_map}
use Rattle.dsv_base.proofs.TakingLemmas.{writes_after, writes_cut}
use Rattle.dsv_lines.specs.Texts.{line_text}
use Rattle.dsv_certfile.specs.Texts.{job_line, format_lines}
use Rattle.dsv_certfile.proofs.writer.put_head.Goals as goal

pub returns-in_err-put_version : goal.returns-in_err-put_version
returns-in_err-put_version g c =
    let job = c.args.job.now in
    writes_cut (line_text (job_line job) ++ flat_map line_text (format_lines job.words)) c.from_residual.ensures.0 c.in_err-put_version.ensures.cut

pub returns-in_err-put_job : goal.returns-in_err-put_job
returns-in_err-put_job g c =
    writes_after c.in_ok-put_version.ensures.whole
    (writes_cut (flat_map line_text (format_lines c.args.job.now.words)) c.from_residual-in_err-put_job.ensures.0 c.in_err-put_job.ensures.cut)

pub returns : goal.returns
returns g c = writes_after c.in_ok-put_version.ensures.whole (writes_after c.in_ok-put_job.ensures.whole c.put_format.ensures)
