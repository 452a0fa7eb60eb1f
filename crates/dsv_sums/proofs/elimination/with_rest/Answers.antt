use Rattle.std.proofs.Common.{◌<◌, ℕ, ℤ, List, arith}
use Rattle.dsv_algebra.specs.Vectors.{matrix_of}
use Rattle.dsv_sums.specs.Elimination.{margin, left_after, entries_of}
use Rattle.dsv_sums.proofs.Filled.{matrix_next}
use Rattle.dsv_sums.proofs.elimination.with_rest.Goals as goal

pub loop-i-preserved : goal.loop-i-preserved
loop-i-preserved c =
    let T = matrix_of c.args.form.now.rows in
    let d = c.args.form.now.d in
    let f : ℕ → List ℤ = λ i. entries_of d (left_after (margin d T) T d i) in
    let i = c.loop-i.i in
    let few = c.requires.places in
    let inside : i < 8 = omega arith in
    let row = rw c.in_ok-rest.was at c.rest_row.ensures in
    rw (c.loop-i.invariant, row) (matrix_next f i inside)
