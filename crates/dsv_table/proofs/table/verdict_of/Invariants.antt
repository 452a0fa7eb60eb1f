use Rattle.std.proofs.Common.{◌≡◌, ◌+◌, length, pos}
use lib.Signed.{◌<ℤ◌}
use Rattle.dsv_table.specs.Table.{verdict_of}
use Rattle.dsv_table.proofs.Rows.{verdict_at}
use Rattle.dsv_table.proofs.table.verdict_of.Given as goal

abbrev pub invariant-loop-number : goal.invariant-loop-number
invariant-loop-number l = record {
  positive : pos 0 <ℤ l.divisor;
  places : length l.row.items + l.number ≡ length l.coefficients;
  reads : verdict_at l.number l.row.items ≡ verdict_of l.coefficients;
}
