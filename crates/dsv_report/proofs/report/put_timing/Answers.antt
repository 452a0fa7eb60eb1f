use Rattle.std.proofs.Common.{◌++◌}
use Rattle.std.specs.Prelude.{codes}
use Rattle.dsv_base.proofs.TakingLemmas.{writes_after, writes_cut}
use Rattle.dsv_report.specs.Lines.{numbered, number_line}
use Rattle.dsv_report.specs.Report.{time_text}
use Rattle.dsv_report.proofs.report.put_timing.Goals as goal

pub returns-in_err-put_counts : goal.returns-in_err-put_counts
returns-in_err-put_counts g c =
    let r = c.args.found.now in
    writes_cut (number_line (codes "cycles ") r.cycles ++ (numbered (codes "clock ") r.clock ++ time_text r.sample_time)) c.from_residual.ensures.0
    (rw (c.into.ensures, c.into-2.ensures, c.into-3.ensures) at c.in_err-put_counts.ensures.cut)

pub returns-in_err-put_number_line : goal.returns-in_err-put_number_line
returns-in_err-put_number_line g c =
    let r = c.args.found.now in
    writes_after (rw (c.into.ensures, c.into-2.ensures, c.into-3.ensures) at c.in_ok-put_counts.ensures.whole)
    (writes_cut (numbered (codes "clock ") r.clock ++ time_text r.sample_time) c.from_residual-in_err-put_number_line.ensures.0 c.in_err-put_number_line.ensures.cut)

pub returns-in_err-put_numbered : goal.returns-in_err-put_numbered
returns-in_err-put_numbered g c =
    let r = c.args.found.now in
    writes_after (rw (c.into.ensures, c.into-2.ensures, c.into-3.ensures) at c.in_ok-put_counts.ensures.whole)
    (writes_after c.in_ok-put_number_line.ensures.whole
    (writes_cut (time_text r.sample_time) c.from_residual-in_err-put_numbered.ensures.0 c.in_err-put_numbered.ensures.cut))

pub returns : goal.returns
returns g c =
    writes_after (rw (c.into.ensures, c.into-2.ensures, c.into-3.ensures) at c.in_ok-put_counts.ensures.whole)
    (writes_after c.in_ok-put_number_line.ensures.whole (writes_after c.in_ok-put_numbered.ensures.whole c.put_time.ensures))
