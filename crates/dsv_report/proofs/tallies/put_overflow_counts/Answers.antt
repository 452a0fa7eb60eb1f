use Rattle.std.proofs.Common.{◌++◌}
use Rattle.std.specs.Prelude.{codes}
use Rattle.dsv_base.proofs.TakingLemmas.{writes_after, writes_cut}
use Rattle.dsv_report.specs.Lines.{numbered, number_line}
use Rattle.dsv_report.proofs.tallies.put_overflow_counts.Goals as goal

pub returns-in_err-put_numbered : goal.returns-in_err-put_numbered
returns-in_err-put_numbered g c =
    writes_cut (numbered (codes " failed ") c.args.overflow ++ number_line (codes " inconclusive ") c.args.spent) c.from_residual.ensures.0 c.in_err-put_numbered.ensures.cut

pub returns-in_err-put_numbered-2 : goal.returns-in_err-put_numbered-2
returns-in_err-put_numbered-2 g c =
    writes_after c.in_ok-put_numbered.ensures.whole
    (writes_cut (number_line (codes " inconclusive ") c.args.spent) c.from_residual-in_err-put_numbered-2.ensures.0 c.in_err-put_numbered-2.ensures.cut)

pub returns : goal.returns
returns g c = writes_after c.in_ok-put_numbered.ensures.whole (writes_after c.in_ok-put_numbered-2.ensures.whole c.put_number_line.ensures)
