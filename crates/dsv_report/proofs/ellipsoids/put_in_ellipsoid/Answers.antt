use Rattle.std.proofs.Common.{codes}
use Rattle.dsv_base.proofs.TakingLemmas.{writes_after, writes_cut}
use Rattle.dsv_report.specs.Forms.{rows_text}
use Rattle.dsv_report.proofs.ellipsoids.put_in_ellipsoid.Goals as goal

pub returns-in_err-put_level : goal.returns-in_err-put_level
returns-in_err-put_level g c = writes_cut (rows_text (codes "form") c.args.offer.now.form) c.from_residual.ensures.0 c.in_err-put_level.ensures.cut

pub returns : goal.returns
returns g c = writes_after c.in_ok-put_level.ensures.whole c.put_rows.ensures
