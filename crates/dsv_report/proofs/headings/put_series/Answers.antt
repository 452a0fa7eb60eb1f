use Rattle.dsv_base.proofs.TakingLemmas.{writes_after, writes_cut}
use Rattle.dsv_command.specs.Views.{names_view}
use Rattle.dsv_report.specs.CascadeTexts.{sections_text}
use Rattle.dsv_report.proofs.headings.put_series.Goals as goal

pub returns-in_err-put_realisation : goal.returns-in_err-put_realisation
returns-in_err-put_realisation g c =
    writes_cut (sections_text (names_view c.args.later.now.items)) c.from_residual.ensures.0 c.in_err-put_realisation.ensures.cut

pub returns : goal.returns
returns g c = writes_after c.in_ok-put_realisation.ensures.whole c.put_section_count.ensures
