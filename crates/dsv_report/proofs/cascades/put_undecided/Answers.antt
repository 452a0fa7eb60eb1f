use Rattle.dsv_base.proofs.TakingLemmas.{writes_after}
use Rattle.dsv_report.proofs.cascades.put_undecided.Goals as goal

pub returns : goal.returns
returns g c = writes_after c.in_ok-put_numbered.ensures.whole c.put_number_line.ensures
