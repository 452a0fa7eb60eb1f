use Rattle.std.proofs.Common.{◌≡◌, ◌≢◌, ◌-◌, ◌≤◌, int_lt, true, false, length, pos, rules, arith}
use Rattle.dsv_algebra.specs.Vectors.{vector_of, matrix_of}
use Rattle.dsv_table.specs.RootSize.{is_inside}
use Rattle.dsv_table.specs.Systems.{divided}
use Rattle.dsv_table.specs.Table.{verdict_from}
use Rattle.dsv_table.proofs.Sides.{positive}
use Rattle.dsv_system_table.specs.Outputs.{unit, IsRightInverse}
use Rattle.dsv_system_table.specs.Rows.{AreRowPowers}
use Rattle.dsv_system_table.proofs.Shown.{obeyed, inverse_of_powers, kept_away_shown}
use Rattle.dsv_system_table.proofs.system.is_kept_away.Goals as goal

pub returns : goal.returns
returns c t =
    let cs = c.as_slice-coefficients.result.now in
    let B = matrix_of c.args.witness.now.starts.items in
    let f = c.args.witness.now.factor in
    let d = length c.args.rows.now in
    let M = matrix_of c.args.rows.now in
    let q = c.args.q.now in
    let w = unit c.args.place in
    let a = vector_of cs in
    let m = length cs - 1 in
    let powers = c.as_slice.result.now in
    let two : 2 ≤ length cs = search rules in
    let l : int_lt (pos 0) (a 0) ≡ true = search rules in
    let n : f ≢ pos 0 = search rules in
    let v : is_inside (verdict_from m 0 (divided m q a)) ≡ false = search rules in
    let p : AreRowPowers d M w (length cs) powers = search rules in
    let o : c.in_ok-is_obeyed.field-0 ≡ true = search rules in
    let i : IsRightInverse d m (matrix_of powers) B f = search rules in
    kept_away_shown d m q M w a B f (omega arith) c.requires.scale (positive (a 0) l) n v
    (obeyed d (length cs) M w cs powers p (omega arith) (omega arith) (c.in_ok-is_obeyed.ensures o))
    (inverse_of_powers d m (length cs) M B w f powers p (omega arith) i)
