use Rattle.std.proofs.Common.{◌≡◌, ◌+◌, int_lt, true, length, pos, rules}
use Rattle.dsv_algebra.specs.Vectors.{vector_of, matrix_of}
use Rattle.dsv_table.proofs.Sides.{positive}
use Rattle.dsv_system_table.proofs.Shown.{annihilator}
use Rattle.dsv_system_table.proofs.system.is_annihilator.Goals as goal

pub returns : goal.returns
returns c t =
    let cs = c.args.coefficients.now in
    let d = length c.args.rows.now in
    let n : length cs ≡ d + 1 = search rules in
    let l : int_lt (pos 0) (vector_of cs 0) ≡ true = search rules in
    annihilator d (matrix_of c.args.rows.now) cs n (positive (vector_of cs 0) l) (c.in_ok-annihilated.ensures t)
