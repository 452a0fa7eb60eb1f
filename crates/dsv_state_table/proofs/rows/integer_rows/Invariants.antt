use Rattle.std.proofs.Common.{◌≡◌, take}
use Rattle.dsv_state_table.proofs.rows.integer_rows.Given as goal

abbrev pub invariant-loop-row : goal.invariant-loop-row
invariant-loop-row l = l.list ≡ take l.row-index l.rows
