use Rattle.dsv_network.proofs.Depths.{found_again}
use Rattle.dsv_network.proofs.law.gains_are_found_again.Goals as goal

pub returns : goal.returns
returns c = found_again
