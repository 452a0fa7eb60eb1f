use Rattle.std.proofs.Common.{◌≡◌, take}
use Rattle.dsv_roundoff.specs.Differences.{multiples_of}
use Rattle.dsv_roundoff.proofs.multiples.multiples_of.Given as goal

abbrev pub invariant-loop-node : goal.invariant-loop-node
invariant-loop-node l = l.says ≡ multiples_of l.format (take l.node-index l.nodes)
