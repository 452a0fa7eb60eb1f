use Rattle.dsv_network.proofs.Holding.{ranges_hold}
use Rattle.dsv_network.proofs.law.ranges_hold.Goals as goal

pub returns : goal.returns
returns c = ranges_hold
