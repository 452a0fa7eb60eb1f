use Rattle.std.proofs.Common.{◌≡◌, ◌++◌, drop, length}
use Rattle.dsv_reader.specs.Reading.{values_in}
use Rattle.dsv_reader.proofs.quotients.values_in.Given as goal

abbrev pub invariant-loop-coefficient : goal.invariant-loop-coefficient
invariant-loop-coefficient l = record {
  places : length l.values.items ≡ l.coefficient-index;
  same : l.values.items ++ values_in (drop l.coefficient-index l.coefficient-items) ≡ values_in l.coefficient-items;
}
