use Rattle.std.proofs.Common.{◌∙◌, SFits, rules}
use Rattle.std.specs.Int.{w64}
use Rattle.dsv_linear.proofs.SmallSums.{short_times_is}
use Rattle.dsv_linear.proofs.arithmetic.small_times.Goals as goal

pub returns-clause-value : goal.returns-clause-value
returns-clause-value c =
    let a = c.args.a.now in
    let b = c.args.b.now in
    let first : SFits w64 a = search rules in
    let second : SFits w64 b = search rules in
    c.from-3.ensures ∙ short_times_is a b c.from.result c.from-2.result first second c.from.ensures c.from-2.ensures
