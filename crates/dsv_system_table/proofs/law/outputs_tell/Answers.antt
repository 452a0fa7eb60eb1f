use Rattle.dsv_system_table.proofs.Outputs.{outputs_keep_away}
use Rattle.dsv_system_table.proofs.law.outputs_tell.Goals as goal

pub returns : goal.returns
returns c = outputs_keep_away
