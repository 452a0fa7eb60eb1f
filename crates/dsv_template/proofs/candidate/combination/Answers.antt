use Rattle.std.proofs.Common.{◌<◌, length, arith}
use Rattle.std.proofs.lemmas.Int.{ints}
use Rattle.dsv_template.proofs.Membership.{combination-drop}
use Rattle.dsv_template.proofs.candidate.combination.Goals as goal

pub loop-i-preserved : goal.loop-i-preserved
loop-i-preserved c =
    let cs = c.args.coefficients.now in
    let rs = c.args.registers.now in
    let i = c.loop-i.i in
    let h : i < length cs = omega arith in
    let k : i < length rs = omega arith in
    let d = combination-drop cs rs i h k in
    let e = c.entry-total.ensures in
    record {
      left = omega (arith, ints, d, e.value);
      least = omega (arith, ints);
      greatest = omega (arith, ints);
    }
