use Rattle.std.proofs.Common.{◌≡◌, take}
use Rattle.std.specs.Prelude.{Some}
use Rattle.dsv_linear.specs.Forms.{scaled_range}
use Rattle.dsv_gain.specs.Narrowing.{all_of}
use Rattle.dsv_gain.proofs.box_ranges.symbols_of.Given as goal

abbrev pub invariant-loop-range : goal.invariant-loop-range
invariant-loop-range l = all_of scaled_range (take l.range-index l.list) ≡ Some l.symbols
