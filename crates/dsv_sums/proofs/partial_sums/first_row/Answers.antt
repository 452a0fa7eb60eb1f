use Rattle.std.proofs.Common.{◌≡◌, ◌<◌, ℤ, ◌∙◌, arith, rules}
use Rattle.std.proofs.lemmas.Int.{to_z-of_z}
use mir.Syntax.{w128}
use mir.Val.{SFits}
use Rattle.dsv_sums.specs.SumForms.{base_entry}
use Rattle.dsv_sums.proofs.Filled.{row_next}
use Rattle.dsv_sums.proofs.partial_sums.first_row.Goals as goal

pub loop-j-preserved : goal.loop-j-preserved
loop-j-preserved c =
    let f = base_entry c.args.i in
    let j = c.loop-j.j in
    let few = c.requires in
    let inside : j < 8 = omega arith in
    let x : ℤ = c.get.result in
    let fits : SFits w128 x = search rules in
    let own : x ≡ f j = c.get.ensures ∙ c.base_entry.ensures in
    rw (to_z-of_z w128 x fits) (rw (c.loop-j.invariant, own) (row_next f j inside))
