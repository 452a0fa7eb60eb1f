use Rattle.dsv_gain.proofs.Near.{outputs_near}
use Rattle.dsv_gain.proofs.law.outputs_stay_near.Goals as goal

pub returns : goal.returns
returns c = outputs_near
