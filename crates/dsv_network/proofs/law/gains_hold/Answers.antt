use Rattle.dsv_network.proofs.Finds.{gains_hold}
use Rattle.dsv_network.proofs.law.gains_hold.Goals as goal

pub returns : goal.returns
returns c = gains_hold
