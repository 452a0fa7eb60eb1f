use Rattle.std.proofs.Common.{◌+◌, ◌-◌, ◌∙◌, arith}
use Rattle.dsv_delta.proofs.Scaling.{even_step}
use Rattle.dsv_loop.proofs.expansion.lowest_dyadic.Goals as goal

pub loop-taken-preserved : goal.loop-taken-preserved
loop-taken-preserved c =
    let n = c.loop-taken.numerator in
    let f = c.args.frac_bits in
    record {
      some = omega arith;
      same = even_step n (f - c.loop-taken.taken) (f - (c.loop-taken.taken + 1)) (omega arith) (omega arith) ∙ c.loop-taken.invariant.same;
    }
