use Rattle.std.proofs.Common.{◌≡◌, ◌<◌, ℤ, sym, ◌∙◌, arith, rules}
use Rattle.std.proofs.lemmas.Int.{to_z-of_z}
use mir.Syntax.{w128}
use mir.Val.{SFits}
use Rattle.dsv_algebra.specs.Vectors.{matrix_of}
use Rattle.dsv_sums.specs.Elimination.{margin, row}
use Rattle.dsv_sums.proofs.Filled.{row_next}
use Rattle.dsv_sums.proofs.Leftovers.{divisor_lost}
use Rattle.dsv_sums.proofs.elimination.row_at.Goals as goal

pub returns-in_err-divisor : goal.returns-in_err-divisor
returns-in_err-divisor c =
    let T = matrix_of c.args.form.now.rows in
    let e = rw (c.from.ensures, c.requires.weight) at c.checked_mul.ensures in
    rw c.from_residual.ensures (divisor_lost c.args.form.now.d T c.args.k c.requires.places c.requires.place (sym c.in_err-divisor.was ∙ e))

pub loop-j-preserved : goal.loop-j-preserved
loop-j-preserved c =
    let T = matrix_of c.args.form.now.rows in
    let f = row (margin c.args.form.now.d T) T c.args.k in
    let j = c.loop-j.j in
    let few = c.requires.places in
    let inside : j < 8 = omega arith in
    let x : ℤ = c.get.result in
    let fits : SFits w128 x = search rules in
    let own : x ≡ f j = c.get.ensures ∙ (rw c.in_ok-row_entry.was at c.row_entry.ensures) in
    rw (to_z-of_z w128 x fits) (rw (c.loop-j.invariant, own) (row_next f j inside))
