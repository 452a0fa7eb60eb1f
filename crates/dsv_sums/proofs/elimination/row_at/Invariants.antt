use Rattle.std.proofs.Common.{◌≡◌}
use Rattle.dsv_algebra.specs.Vectors.{matrix_of}
use Rattle.dsv_forms.specs.Padded.{row_of}
use Rattle.dsv_sums.specs.Elimination.{margin, row, entries_of}
use Rattle.dsv_sums.proofs.elimination.row_at.Given as goal

abbrev pub invariant-loop-j : goal.invariant-loop-j
invariant-loop-j l = l.row ≡ row_of (entries_of l.j (row (margin l.form.d (matrix_of l.form.rows)) (matrix_of l.form.rows) l.k))
