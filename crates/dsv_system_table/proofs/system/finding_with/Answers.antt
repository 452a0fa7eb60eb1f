use Rattle.std.proofs.Common.{◌≡◌, true, false, length, rules}
use Rattle.dsv_algebra.specs.Vectors.{matrix_of}
use Rattle.dsv_table.specs.RootSize.{is_inside}
use Rattle.dsv_system_table.specs.SystemFindings.{SystemIsKeptAway}
use Rattle.dsv_system_table.proofs.Shown.{finding_inside, finding_outside}
use Rattle.dsv_system_table.proofs.system.finding_with.Goals as goal

pub returns-then-is_inside : goal.returns-then-is_inside
returns-then-is_inside c =
    let cs = c.args.coefficients.now in
    let found = c.in_ok-found.found in
    let t : is_inside found.verdict ≡ true = search rules in
    finding_inside (length c.args.rows.now) c.args.q.now (matrix_of c.args.rows.now) cs found c.requires.order c.requires.scale c.requires.polynomial c.in_ok-found.ensures t

pub returns-then-branch : goal.returns-then-branch
returns-then-branch c =
    let cs = c.args.coefficients.now in
    let found = c.in_ok-found.found in
    let t : is_inside found.verdict ≡ false = search rules in
    let away : SystemIsKeptAway (length c.args.rows.now) c.args.q.now (matrix_of c.args.rows.now) = search rules in
    finding_outside (length c.args.rows.now) c.args.q.now (matrix_of c.args.rows.now) cs found c.requires.polynomial c.in_ok-found.ensures t away
