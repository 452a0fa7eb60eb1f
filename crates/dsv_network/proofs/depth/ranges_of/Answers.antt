use Rattle.std.proofs.Common.{rules}
use Rattle.dsv_network.specs.Gains.{ranges_of}
use Rattle.dsv_network.proofs.depth.ranges_of.Goals as goal

pub returns : goal.returns
unfolding ranges_of
returns c = search rules
