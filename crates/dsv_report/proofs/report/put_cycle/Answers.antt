use Rattle.std.proofs.Common.{◌++◌}
use Rattle.std.specs.Prelude.{codes}
use Rattle.dsv_base.proofs.TakingLemmas.{writes_after, writes_cut}
use Rattle.dsv_report.specs.Lines.{number_line}
use Rattle.dsv_report.specs.Forms.{numbers_line}
use Rattle.dsv_report.proofs.report.put_cycle.Goals as goal

pub returns-in_err-put_line : goal.returns-in_err-put_line
returns-in_err-put_line g c =
    let z = c.args.cycle.now in
    writes_cut (number_line (codes "period ") z.period ++ numbers_line (codes "outputs") z.outputs) c.from_residual.ensures.0 (rw c.as_slice.ensures at c.in_err-put_line.ensures.cut)

pub returns-in_err-put_number_line : goal.returns-in_err-put_number_line
returns-in_err-put_number_line g c =
    let z = c.args.cycle.now in
    writes_after (rw c.as_slice.ensures at c.in_ok-put_line.ensures.whole)
    (writes_cut (numbers_line (codes "outputs") z.outputs) c.from_residual-in_err-put_number_line.ensures.0 (rw c.into.ensures at c.in_err-put_number_line.ensures.cut))

pub returns : goal.returns
returns g c =
    writes_after (rw c.as_slice.ensures at c.in_ok-put_line.ensures.whole)
    (writes_after (rw c.into.ensures at c.in_ok-put_number_line.ensures.whole) (rw c.as_slice-2.ensures at c.put_line-2.ensures))
