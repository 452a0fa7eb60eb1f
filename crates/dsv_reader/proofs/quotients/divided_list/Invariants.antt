use Rattle.std.proofs.Common.{◌≡◌, drop, length}
use Rattle.dsv_reader.specs.Reading.{divided_from, divided_list}
use Rattle.dsv_reader.proofs.quotients.divided_list.Given as goal

abbrev pub invariant-loop-coefficient : goal.invariant-loop-coefficient
invariant-loop-coefficient l = record {
  places : length l.quotients.items ≡ l.coefficient-index;
  same : divided_from l.divisor (drop l.coefficient-index l.coefficient-items) l.quotients.items ≡ divided_list l.divisor l.coefficient-items;
}
