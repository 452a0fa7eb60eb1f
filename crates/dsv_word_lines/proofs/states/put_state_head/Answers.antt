use Rattle.dsv_base.proofs.TakingLemmas.{writes_after, writes_cut}
use Rattle.dsv_word_lines.specs.WordLines.{state_input_line}
use Rattle.dsv_word_lines.proofs.states.put_state_head.Goals as goal

pub returns-in_err-put_format_line : goal.returns-in_err-put_format_line
returns-in_err-put_format_line g c =
    writes_cut (state_input_line c.args.file.now c.args.system.now) c.from_residual.ensures.0 (rw c.format.ensures.same at c.in_err-put_format_line.ensures.cut)

pub returns : goal.returns
returns g c = writes_after (rw c.format.ensures.same at c.in_ok-put_format_line.ensures.whole) c.put_state_inputs.ensures
