use Rattle.std.proofs.Common.{◌≡◌, ◌-◌}
use Rattle.dsv_network.specs.Gains.{gain_from}
use Rattle.dsv_network.proofs.search.gain_from.Given as goal

abbrev pub invariant-loop-sample : goal.invariant-loop-sample
invariant-loop-sample l = gain_from l.nodes l.next (l.limit - l.sample) l.sample l.search ≡ gain_from l.nodes l.next l.limit 0 l.fn.search
