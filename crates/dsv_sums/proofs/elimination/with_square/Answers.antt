use Rattle.std.proofs.Common.{ℤ, pos, int_lt, sym, ap, ◌∙◌, rules}
use Rattle.std.proofs.lemmas.Int.{to_z-of_z}
use mir.Syntax.{w128}
use mir.Val.{SFits}
use Rattle.dsv_algebra.specs.Vectors.{matrix_of}
use Rattle.dsv_sums.proofs.Leftovers.{square_next}
use Rattle.dsv_sums.proofs.elimination.with_square.Goals as goal

pub returns : goal.returns
returns c =
    let T = matrix_of c.args.form.now.rows in
    let x : ℤ = c.get.result in
    let fits : SFits w128 x = search rules in
    let own = rw c.in_ok-weight.was at c.weight_at.ensures in
    let row = rw c.in_ok-row.was at c.row_at.ensures in
    rw (to_z-of_z w128 x fits) (
      square_next c.args.form.now.d T c.args.k c.args.squares.now x c.in_ok-row.row c.requires.places c.requires.place c.requires.squares (c.get.ensures ∙ own.0) row,
      ap (int_lt (pos 0)) (sym own.0) ∙ own.1,
    )
