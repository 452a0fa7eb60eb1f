use Rattle.std.proofs.Common.{◌≡◌, map}
use Rattle.dsv_algebra.specs.Vectors.{matrix_of}
use Rattle.dsv_forms.specs.Padded.{matrix_with}
use Rattle.dsv_forms.specs.Refusals.{places}
use Rattle.dsv_sums.specs.Elimination.{margin, left_after, entries_of}
use Rattle.dsv_sums.proofs.elimination.with_rest.Given as goal

abbrev pub invariant-loop-i : goal.invariant-loop-i
invariant-loop-i l = l.rest
    ≡ matrix_with (map (λ i. entries_of l.form.d (left_after (margin l.form.d (matrix_of l.form.rows)) (matrix_of l.form.rows) l.form.d i)) (places l.i))
