use Rattle.dsv_network.proofs.Finds.{gains_within}
use Rattle.dsv_network.proofs.law.gains_are_within.Goals as goal

pub returns : goal.returns
returns c = gains_within
