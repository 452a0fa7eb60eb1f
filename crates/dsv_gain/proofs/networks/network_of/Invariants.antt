use Rattle.std.proofs.Common.{◌≡◌, map, take}
use Rattle.dsv_roundoff.specs.Differences.{multiples_of}
use Rattle.dsv_gain.specs.Networks.{signal_of}
use Rattle.dsv_gain.proofs.networks.network_of.Given as goal

abbrev pub invariant-loop-node : goal.invariant-loop-node
invariant-loop-node l = l.nodes ≡ map (signal_of l.net.format l.quantity (multiples_of l.net.format l.net.nodes) l.input) (take l.node-index l.net.nodes)
