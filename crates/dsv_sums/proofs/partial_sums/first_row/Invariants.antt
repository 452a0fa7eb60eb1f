use Rattle.std.proofs.Common.{◌≡◌}
use Rattle.dsv_forms.specs.Padded.{row_of}
use Rattle.dsv_sums.specs.Elimination.{entries_of}
use Rattle.dsv_sums.specs.SumForms.{base_entry}
use Rattle.dsv_sums.proofs.partial_sums.first_row.Given as goal

abbrev pub invariant-loop-j : goal.invariant-loop-j
invariant-loop-j l = l.row ≡ row_of (entries_of l.j (base_entry l.i))
