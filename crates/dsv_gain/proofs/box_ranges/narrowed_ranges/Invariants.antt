use Rattle.std.proofs.Common.{◌≡◌, ◌-◌}
use Rattle.dsv_gain.specs.Narrowing.{narrowed, most_passes}
use Rattle.dsv_gain.proofs.box_ranges.narrowed_ranges.Given as goal

abbrev pub invariant-loop : goal.invariant-loop
invariant-loop l = narrowed (most_passes - l.counter) l.subject.net.now l.subject.low l.subject.high l.limit l.list
    ≡ narrowed most_passes l.subject.net.now l.subject.low l.subject.high l.limit l.fn.ranges
