use Rattle.dsv_base.proofs.TakingLemmas.{writes_after, writes_cut}
use Rattle.dsv_report.specs.Gains.{range_text}
use Rattle.dsv_report.specs.Lines.{numbered_lines}
use Rattle.dsv_report.proofs.gains.put_gain.Goals as goal

pub returns-in_err-put_depth : goal.returns-in_err-put_depth
returns-in_err-put_depth g c =
    writes_cut (numbered_lines range_text 0 c.args.gain.now.ranges) c.from_residual.ensures.0 (rw (c.into.ensures, c.into-2.ensures) at c.in_err-put_depth.ensures.cut)

pub returns : goal.returns
returns g c = writes_after (rw (c.into.ensures, c.into-2.ensures) at c.in_ok-put_depth.ensures.whole) (rw c.as_slice.ensures at c.put_ranges.ensures)
