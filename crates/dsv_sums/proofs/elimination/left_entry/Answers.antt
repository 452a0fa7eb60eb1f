use Rattle.std.proofs.Common.{pos, refl, sym, ◌∙◌, arith}
use Rattle.std.proofs.Math.IntN.{◌*ℤ◌}
use Rattle.dsv_algebra.specs.Vectors.{matrix_of}
use Rattle.dsv_forms.specs.Sums.{square_summands}
use Rattle.dsv_sums.specs.Elimination.{multiple}
use Rattle.dsv_sums.proofs.Leftovers.{whole_lost, sum_lost, sum_narrow, left_had, product_had}
use Rattle.dsv_sums.proofs.elimination.left_entry.Goals as goal

pub returns-in_err-whole : goal.returns-in_err-whole
returns-in_err-whole c =
    let T = matrix_of c.args.form.now.rows in
    let e = rw (c.from.ensures, c.entry.ensures) at c.checked_mul.ensures in
    rw c.from_residual.ensures (whole_lost c.args.form.now.d T c.args.i c.args.j c.requires.row c.requires.column (sym c.in_err-whole.was ∙ e))

pub returns-in_err-sum : goal.returns-in_err-sum
returns-in_err-sum c =
    let T = matrix_of c.args.form.now.rows in
    rw c.from_residual-in_err-sum.ensures
    (sum_lost c.args.form.now.d T c.args.squares.now c.args.k c.args.i c.args.j c.requires.places c.requires.few c.requires.squares c.requires.row c.requires.column
    (sym c.in_err-sum.was ∙ c.sum_of_squares.ensures))

pub difference-requires-clause-first : goal.difference-requires-clause-first
difference-requires-clause-first c =
    let T = matrix_of c.args.form.now.rows in
    let e = rw (c.from.ensures, c.entry.ensures) at c.checked_mul.ensures in
    (product_had (multiple *ℤ T c.args.i c.args.j) c.in_ok-whole.whole (sym c.in_ok-whole.was ∙ e)).1

pub difference-requires-clause-second : goal.difference-requires-clause-second
difference-requires-clause-second c =
    sum_narrow (pos 0) c.in_ok-sum.sum (square_summands c.args.k c.args.squares.now c.args.i c.args.j) refl (sym c.in_ok-sum.was ∙ c.sum_of_squares.ensures)

pub returns : goal.returns
returns c =
    let T = matrix_of c.args.form.now.rows in
    let row = c.requires.row in
    let column = c.requires.column in
    let e = rw (c.from.ensures, c.entry.ensures) at c.checked_mul.ensures in
    c.difference.ensures
    ∙ left_had c.args.form.now.d T c.args.squares.now c.args.k c.args.i c.args.j c.in_ok-whole.whole c.in_ok-sum.sum c.requires.places c.requires.few c.requires.squares
    (omega arith) column (product_had (multiple *ℤ T c.args.i c.args.j) c.in_ok-whole.whole (sym c.in_ok-whole.was ∙ e)).0 (sym c.in_ok-sum.was ∙ c.sum_of_squares.ensures)
