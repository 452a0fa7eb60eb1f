use Rattle.std.proofs.Common.{length, rules}
use Rattle.dsv_algebra.specs.Vectors.{vector_of, matrix_of}
use Rattle.dsv_system_table.specs.Rows.{AreEntries, row_sum, reversal}
use Rattle.dsv_system_table.proofs.Polynomials.{reversal_sum}
use Rattle.dsv_system_table.proofs.polynomial.is_obeyed.Goals as goal

pub returns : goal.returns
returns c t l b =
    let row = c.args.coefficients.now in
    let first = c.in_ok-last_first.last_first.items in
    let sums = c.in_ok-sums.sums.items in
    let K = matrix_of c.args.powers.now in
    let a : AreEntries (length row) (reversal row) first = search rules in
    let s : AreEntries c.args.width (row_sum (length row) (vector_of first) K) sums = search rules in
    reversal_sum row first sums K c.args.width l c.requires a s (search rules) b
