use Rattle.std.proofs.Common.{rules}
use Rattle.std.proofs.lemmas.Int.{to_z-of_z}
use mir.Syntax.{w128}
use mir.Val.{SFits}
use Rattle.dsv_quantiser.proofs.Ranges.{range_given}
use Rattle.dsv_quantiser.proofs.range.range_of.Goals as goal

pub returns-clause-meaning : goal.returns-clause-meaning
returns-clause-meaning c =
    let low : SFits w128 c.in_ok-low.low = search rules in
    let high : SFits w128 c.in_ok-high.high = search rules in
    let meant = simp to_z-of_z at c.clamped_range.ensures.meaning in
    let up = rw c.in_ok-low.ensures.made at c.ceil_frac.ensures.meaning in
    let down = rw c.in_ok-high.ensures.made at c.floor_frac.ensures.meaning in
    range_given c.args.format c.args.min.now c.args.max.now c.in_ok-low.low c.in_ok-high.high c.clamped_range.result meant up down
