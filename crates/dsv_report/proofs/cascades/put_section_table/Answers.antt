use Rattle.dsv_base.proofs.TakingLemmas.{writes_after, writes_cut}
use Rattle.dsv_report.specs.Tables.{table_text}
use Rattle.dsv_report.proofs.cascades.put_section_table.Goals as goal

pub returns-in_err-put_section : goal.returns-in_err-put_section
returns-in_err-put_section g c = writes_cut (table_text c.args.found.now) c.from_residual.ensures.0 c.in_err-put_section.ensures.cut

pub returns : goal.returns
returns g c = writes_after c.in_ok-put_section.ensures.whole c.put_table.ensures
