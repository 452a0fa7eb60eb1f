use Rattle.std.proofs.Common.{◌++◌}
use Rattle.std.specs.List.{flat_map}
use Rattle.std.specs.Fmt.{signed_decimal}
use Rattle.dsv_base.specs.Text.{spaced_text}
use Rattle.dsv_base.proofs.TakingLemmas.{writes_after, writes_cut}
use Rattle.dsv_report.specs.Report.{bound_text}
use Rattle.dsv_report.proofs.report.put_inequality.Goals as goal

pub returns-in_err-put_all : goal.returns-in_err-put_all
returns-in_err-put_all g c =
    let i = c.args.inequality.now in
    writes_cut (flat_map (spaced_text signed_decimal) i.coefficients.items ++ bound_text i.bound) c.from_residual.ensures.0 c.in_err-put_all.ensures.cut

pub returns-in_err-put_numbers : goal.returns-in_err-put_numbers
returns-in_err-put_numbers g c =
    writes_after c.in_ok-put_all.ensures.whole (writes_cut (bound_text c.args.inequality.now.bound) c.from_residual-in_err-put_numbers.ensures.0 (rw c.deref.ensures.0 at c.in_err-put_numbers.ensures.cut))

pub returns : goal.returns
returns g c = writes_after c.in_ok-put_all.ensures.whole (writes_after (rw c.deref.ensures.0 at c.in_ok-put_numbers.ensures.whole) c.put_bound.ensures)
