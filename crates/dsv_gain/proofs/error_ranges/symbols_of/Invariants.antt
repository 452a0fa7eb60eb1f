use Rattle.std.proofs.Common.{◌≡◌, map, take}
use Rattle.dsv_gain.specs.Gains.{symbol_of_range}
use Rattle.dsv_gain.specs.Errors.{range_from}
use Rattle.dsv_gain.proofs.error_ranges.symbols_of.Given as goal

abbrev pub invariant-loop-it : goal.invariant-loop-it
invariant-loop-it l = l.symbols ≡ map symbol_of_range (map range_from (take l.it-index l.list))
