use Rattle.std.proofs.Common.{◌<◌, get_or, SFits, arith, rules}
use Rattle.std.specs.Int.{w128}
use Rattle.std.specs.Int.RustNames.{unsigned_abs}
use Rattle.std.proofs.Math.IntN.{ℤ, pos, negsuc, ◌+ℤ◌}
use Rattle.std.proofs.lemmas.Int.{to_z-of_z}
use Rattle.dsv_netlist.specs.Limits.{bound_limit}
use Rattle.dsv_netlist.proofs.step.value_of.Goals as goal

pub bounds-values-right : goal.bounds-values-right
bounds-values-right c = (rw c.in-Add.is at c.requires.backwards).1

size_fits : (z : ℤ) → unsigned_abs z < bound_limit → SFits w128 z
size_fits (pos n) h = record { sfits = omega arith }
size_fits (negsuc n) h = record { sfits = omega arith }

pub overflow_add-result : goal.overflow_add-result
overflow_add-result c =
    let a = get_or c.args.values.now c.in-Add.left (pos 0) in
    let b = get_or c.args.values.now c.in-Add.right (pos 0) in
    let first : SFits w128 a = search rules in
    let second : SFits w128 b = search rules in
    rw (to_z-of_z w128 a first, to_z-of_z w128 b second) (size_fits (a +ℤ b) (rw c.in-Add.is at c.requires.small))
