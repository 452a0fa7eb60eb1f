use Rattle.std.proofs.Common.{◌++◌}
use Rattle.std.specs.Prelude.{codes}
use Rattle.dsv_base.proofs.TakingLemmas.{writes_after, writes_cut}
use Rattle.dsv_report.specs.Forms.{numbers_line}
use Rattle.dsv_report.specs.Report.{break_text}
use Rattle.dsv_report.proofs.report.put_trace.Goals as goal

pub returns-in_err-put_line : goal.returns-in_err-put_line
returns-in_err-put_line g c =
    let t = c.args.trace.now in
    writes_cut (numbers_line (codes "outputs") t.outputs ++ break_text t.sample t.value t.exact) c.from_residual.ensures.0 (rw c.as_slice.ensures at c.in_err-put_line.ensures.cut)

pub returns-in_err-put_line-2 : goal.returns-in_err-put_line-2
returns-in_err-put_line-2 g c =
    let t = c.args.trace.now in
    writes_after (rw c.as_slice.ensures at c.in_ok-put_line.ensures.whole)
    (writes_cut (break_text t.sample t.value t.exact) c.from_residual-in_err-put_line-2.ensures.0 (rw c.as_slice-2.ensures at c.in_err-put_line-2.ensures.cut))

pub returns : goal.returns
returns g c =
    writes_after (rw c.as_slice.ensures at c.in_ok-put_line.ensures.whole)
    (writes_after (rw c.as_slice-2.ensures at c.in_ok-put_line-2.ensures.whole) (rw (c.into.ensures, c.into-2.ensures) at c.put_break.ensures))
