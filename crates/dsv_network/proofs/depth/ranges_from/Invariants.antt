use Rattle.std.proofs.Common.{◌≡◌, ◌-◌}
use Rattle.std.specs.Prelude.{None}
use Rattle.dsv_network.specs.Gains.{ranges_from}
use Rattle.dsv_network.proofs.depth.ranges_from.Given as goal

abbrev pub invariant-loop : goal.invariant-loop
invariant-loop l = ranges_from l.nodes l.next (l.depth - l.counter) l.pass l.seen ≡ ranges_from l.nodes l.next l.depth l.fn.pass None
