use Rattle.dsv_base.proofs.TakingLemmas.{writes_after, writes_cut}
use Rattle.dsv_report.specs.Forms.{fall_text}
use Rattle.dsv_report.proofs.forms.put_form.Goals as goal

pub returns-in_err-put_line : goal.returns-in_err-put_line
returns-in_err-put_line g c = writes_cut (fall_text c.args.form.now c.args.fall.now) c.from_residual.ensures.0 (rw c.coefficients.ensures.same at c.in_err-put_line.ensures.cut)

pub returns : goal.returns
returns g c = writes_after (rw c.coefficients.ensures.same at c.in_ok-put_line.ensures.whole) c.put_fall.ensures
