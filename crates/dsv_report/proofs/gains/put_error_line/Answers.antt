use Rattle.std.specs.Int.{w128}
use Rattle.std.proofs.Common.{rules, SFits}
use Rattle.std.proofs.lemmas.Int.{to_z-of_z}
use Rattle.dsv_report.proofs.gains.put_error_line.Goals as goal

pub returns : goal.returns
returns g c =
    let depth : SFits w128 c.into.result = search rules in
    let low : SFits w128 c.get.result = search rules in
    let high : SFits w128 c.get-2.result = search rules in
    rw (c.into.ensures, c.get.ensures, c.get-2.ensures) at simp to_z-of_z at c.put_fragments.ensures
