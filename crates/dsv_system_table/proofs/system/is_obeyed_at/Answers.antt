use Rattle.std.proofs.Common.{length, rules, arith}
use Rattle.dsv_algebra.specs.Vectors.{matrix_of}
use Rattle.dsv_system_table.specs.Outputs.{unit}
use Rattle.dsv_system_table.specs.Rows.{AreRowPowers}
use Rattle.dsv_system_table.proofs.Shown.{obeyed}
use Rattle.dsv_system_table.proofs.system.is_obeyed_at.Goals as goal

pub returns : goal.returns
returns c t =
    let cs = c.args.coefficients.now in
    let d = length c.args.rows.now in
    let M = matrix_of c.args.rows.now in
    let powers = c.as_slice.result.now in
    let p : AreRowPowers d M (unit c.args.place) (length cs) powers = search rules in
    obeyed d (length cs) M (unit c.args.place) cs powers p c.requires (omega arith) (c.in_ok-obeyed.ensures t)
