use Rattle.std.proofs.Common.{◌+◌}
use Rattle.dsv_fraction.proofs.compare.+compare_ratios.Given as goal

abbrev pub decreases-compare_ratios : goal.decreases-compare_ratios
decreases-compare_ratios l = l.b + l.d
