use Rattle.dsv_base.proofs.TakingLemmas.{writes_after, writes_cut}
use Rattle.dsv_word_lines.specs.WordLines.{matrix_lines}
use Rattle.dsv_word_lines.proofs.states.put_state_lines.Goals as goal

pub returns-in_err-put_state_head : goal.returns-in_err-put_state_head
returns-in_err-put_state_head g c = writes_cut (matrix_lines c.args.system.now) c.from_residual.ensures.0 c.in_err-put_state_head.ensures.cut

pub returns : goal.returns
returns g c = writes_after c.in_ok-put_state_head.ensures.whole c.put_matrices.ensures
