use Rattle.std.proofs.Common.{rules}
use Rattle.dsv_network.specs.Gains.{gain_of}
use Rattle.dsv_network.proofs.search.gain_of.Goals as goal

pub returns : goal.returns
unfolding gain_of
returns c = search rules
