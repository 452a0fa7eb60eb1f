use Rattle.std.proofs.Common.{◌≡◌, ◌++◌, take}
use Rattle.dsv_network.specs.Gains.{sample_symbols}
use Rattle.dsv_network.proofs.starts.push_sample_symbols.Given as goal

abbrev pub invariant-loop-node : goal.invariant-loop-node
invariant-loop-node l = l.ranges ≡ l.fn.ranges ++ sample_symbols (take l.node-index l.nodes)
