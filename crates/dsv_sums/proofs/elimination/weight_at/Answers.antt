use Rattle.std.proofs.Common.{refl}
use Rattle.dsv_algebra.specs.Vectors.{matrix_of}
use Rattle.dsv_sums.proofs.Leftovers.{weight_found}
use Rattle.dsv_sums.proofs.elimination.weight_at.Goals as goal

pub returns : goal.returns
returns c =
    let T = matrix_of c.args.form.now.rows in
    let left = rw c.in_ok-left.was at c.left_entry.ensures in
    let share = rw (c.from.ensures, left) at c.rounded_quotient-share.ensures.same in
    weight_found c.args.form.now.d T c.args.k c.positive_difference.result c.rounded_quotient-share.result c.margin.result c.requires.place
    (rw (share, c.margin.ensures.same) refl) c.positive_difference.ensures
