use Rattle.dsv_gain.proofs.Near.{controllers_near}
use Rattle.dsv_gain.proofs.law.controllers_stay_near.Goals as goal

pub returns : goal.returns
returns c = controllers_near
