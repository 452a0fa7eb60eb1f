use Rattle.dsv_base.proofs.TakingLemmas.{writes_after, writes_cut}
use Rattle.dsv_word_lines.specs.WordLines.{lane_lines}
use Rattle.dsv_word_lines.proofs.states.put_matrices.Goals as goal

pub returns-in_err-put_rows : goal.returns-in_err-put_rows
returns-in_err-put_rows g c = writes_cut (lane_lines c.args.system.now) c.from_residual.ensures.0 (rw c.a.ensures.same at c.in_err-put_rows.ensures.cut)

pub returns : goal.returns
returns g c = writes_after (rw c.a.ensures.same at c.in_ok-put_rows.ensures.whole) c.put_lanes.ensures
