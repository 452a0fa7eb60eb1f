use Rattle.std.proofs.Common.{◌≡◌, ◌<◌, ℤ, ◌∙◌, arith, rules}
use Rattle.std.proofs.lemmas.Int.{to_z-of_z}
use mir.Syntax.{w128}
use mir.Val.{SFits}
use Rattle.dsv_algebra.specs.Vectors.{matrix_of}
use Rattle.dsv_sums.specs.Elimination.{margin, left_after}
use Rattle.dsv_sums.proofs.Filled.{row_next}
use Rattle.dsv_sums.proofs.Leftovers.{left_mirrored}
use Rattle.dsv_sums.proofs.elimination.rest_row.Goals as goal

pub loop-j-preserved : goal.loop-j-preserved
loop-j-preserved c =
    let T = matrix_of c.args.form.now.rows in
    let d = c.args.form.now.d in
    let g = margin d T in
    let i = c.args.i in
    let f = left_after g T d i in
    let j = c.loop-j.j in
    let few = c.requires.places in
    let inside : j < 8 = omega arith in
    let x : ℤ = c.get.result in
    let fits : SFits w128 x = search rules in
    let left = rw (c.in_ok-left_entry.was, c.min.ensures, c.max.ensures) at c.left_entry.ensures in
    let own : x ≡ f j = c.get.ensures ∙ left ∙ left_mirrored d g T d i j c.requires.symmetric c.requires.row c.loop-j-test.true in
    rw (to_z-of_z w128 x fits) (rw (c.loop-j.invariant, own) (row_next f j inside))
