use Rattle.dsv_base.proofs.TakingLemmas.{writes_after, writes_cut}
use Rattle.dsv_word_lines.specs.WordLines.{coefficient_lines}
use Rattle.dsv_word_lines.proofs.cascades.put_section.Goals as goal

pub returns-in_err-put_section_line : goal.returns-in_err-put_section_line
returns-in_err-put_section_line g c = writes_cut (coefficient_lines c.args.section.now) c.from_residual.ensures.0 c.in_err-put_section_line.ensures.cut

pub returns : goal.returns
returns g c = writes_after c.in_ok-put_section_line.ensures.whole c.put_coefficients.ensures
