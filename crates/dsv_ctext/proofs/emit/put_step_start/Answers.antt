use Rattle.std.proofs.Common.{◌∷◌, []}
use Rattle.dsv_base.proofs.TakingLemmas.{writes_after, writes_cut}
use Rattle.dsv_ctext.specs.Comments.{step_remark}
use Rattle.dsv_ctext.proofs.emit.put_step_start.Goals as goal

pub returns-in_err-put_all : goal.returns-in_err-put_all
returns-in_err-put_all g c = writes_cut {x = (10 ∷ [])} ((step_remark c.args.remarks.now)) c.from_residual.ensures.0 c.in_err-put_all.ensures.cut

pub returns : goal.returns
returns g c = writes_after {x = (10 ∷ [])} {y = (step_remark c.args.remarks.now)} c.in_ok-put_all.ensures.whole (c.put_step_remark.ensures)
