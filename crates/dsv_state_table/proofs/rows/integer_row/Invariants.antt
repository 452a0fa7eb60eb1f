use Rattle.std.proofs.Common.{◌≡◌, take}
use Rattle.dsv_state_table.proofs.rows.integer_row.Given as goal

abbrev pub invariant-loop-word : goal.invariant-loop-word
invariant-loop-word l = l.list ≡ take l.word-index l.words
