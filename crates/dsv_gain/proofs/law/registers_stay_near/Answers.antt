use Rattle.dsv_gain.proofs.Near.{registers_near}
use Rattle.dsv_gain.proofs.law.registers_stay_near.Goals as goal

pub returns : goal.returns
returns c = registers_near
