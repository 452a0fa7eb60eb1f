use Rattle.dsv_base.proofs.TakingLemmas.{writes_after, writes_cut}
use Rattle.dsv_word_lines.specs.WordLines.{coefficient_lines}
use Rattle.dsv_word_lines.proofs.controllers.put_controller_lines.Goals as goal

pub returns-in_err-put_head : goal.returns-in_err-put_head
returns-in_err-put_head g c = writes_cut (coefficient_lines c.args.quantised.now) c.from_residual.ensures.0 c.in_err-put_head.ensures.cut

pub returns : goal.returns
returns g c = writes_after c.in_ok-put_head.ensures.whole c.put_coefficients.ensures
