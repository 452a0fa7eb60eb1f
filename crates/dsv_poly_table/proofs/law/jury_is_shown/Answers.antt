use Rattle.dsv_poly_table.proofs.Recursions.{jury_is_shown}
use Rattle.dsv_poly_table.proofs.law.jury_is_shown.Goals as goal

pub returns : goal.returns
returns c = jury_is_shown
