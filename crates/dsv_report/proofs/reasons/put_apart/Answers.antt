use Rattle.dsv_base.proofs.TakingLemmas.{writes_after, writes_cut}
use Rattle.std.specs.Prelude.{codes}
use Rattle.dsv_command.specs.Views.{part_view}
use Rattle.dsv_report.specs.Reasons.{part_text}
use Rattle.dsv_report.proofs.reasons.put_apart.Goals as goal

pub returns-in_err-put_part_and : goal.returns-in_err-put_part_and
returns-in_err-put_part_and g c = writes_cut (part_text (part_view c.args.other) (codes " don't go together\n")) c.from_residual.ensures.0 c.in_err-put_part_and.ensures.cut

pub returns : goal.returns
returns g c = writes_after c.in_ok-put_part_and.ensures.whole c.put_part_and-2.ensures
