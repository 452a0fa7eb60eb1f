use Rattle.std.proofs.Common.{codes}
use Rattle.dsv_base.proofs.TakingLemmas.{writes_after, writes_cut}
use Rattle.dsv_report.specs.Forms.{rows_text}
use Rattle.dsv_report.proofs.forms.put_fall.Goals as goal

pub returns-in_err-put_rows : goal.returns-in_err-put_rows
returns-in_err-put_rows g c = writes_cut (rows_text (codes "fall") c.args.fall.now) c.from_residual.ensures.0 c.in_err-put_rows.ensures.cut

pub returns : goal.returns
returns g c = writes_after c.in_ok-put_rows.ensures.whole c.put_rows-2.ensures
