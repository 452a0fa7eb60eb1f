use Rattle.std.proofs.Common.{◌≡◌, length}
use Rattle.dsv_reader.specs.Reading.{padded_list}
use Rattle.dsv_reader.proofs.quotients.padded_list.Given as goal

abbrev pub invariant-loop : goal.invariant-loop
invariant-loop l = record {
  places : length l.list.items ≡ l.counter;
  same : padded_list l.count l.list.items ≡ padded_list l.count l.fn.list.items;
}
