use Rattle.std.proofs.Common.{◌≡◌, map, take}
use Rattle.dsv_gain.specs.Errors.{range_from}
use Rattle.dsv_gain.proofs.error_ranges.ranges_from.Given as goal

abbrev pub invariant-loop-it : goal.invariant-loop-it
invariant-loop-it l = l.ranges ≡ map range_from (take l.it-index l.list)
