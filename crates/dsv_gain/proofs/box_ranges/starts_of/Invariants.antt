use Rattle.std.proofs.Common.{◌≡◌, ◌-◌, length, replicate}
use Rattle.dsv_network.specs.Gains.{none_range}
use Rattle.dsv_gain.specs.Narrowing.{held_in}
use Rattle.dsv_gain.proofs.box_ranges.starts_of.Given as goal

abbrev pub invariant-loop : goal.invariant-loop
invariant-loop l = held_in (length l.net.next - l.counter) l.input l.net.nodes l.net.next l.fitted l.list
    ≡ held_in (length l.net.next) l.input l.net.nodes l.net.next l.fitted (replicate (length l.net.next) none_range)
