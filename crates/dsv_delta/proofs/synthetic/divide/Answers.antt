use Rattle.std.proofs.Common.{◌+◌, ◌+ℤ◌, ap, rules, arith, pos, ℤ, slice_index_or}
use Rattle.std.proofs.lemmas.Int.{to_z-of_z, ints}
use Rattle.std.proofs.lemmas.List.{drop-set-lt}
use mir.Syntax.{w128}
use mir.Val.{SFits, to_z}
use Rattle.dsv_delta.specs.Binomials.{weight}
use Rattle.dsv_delta.specs.Running.{running_sums}
use Rattle.dsv_delta.proofs.Weights.{carry_small, running_step}
use Rattle.dsv_delta.proofs.synthetic.divide.Goals as goal

pub overflow_add-carry : goal.overflow_add-carry
overflow_add-carry c =
    let n : ℤ = slice_index_or c.loop-coefficient.coefficients c.loop-coefficient.coefficient-index (pos 0) in
    let fits : SFits w128 n = search rules in
    let small = carry_small c.loop-coefficient.coefficients c.loop-coefficient.coefficient-index (to_z w128 c.loop-coefficient.carry-bits) (search rules) c.loop-coefficient.invariant.small in
    rw (to_z-of_z w128 n fits) (omega (arith, ints, small))

pub loop-coefficient-preserved : goal.loop-coefficient-preserved
loop-coefficient-preserved c =
    let carry : ℤ = to_z w128 c.loop-coefficient.carry-bits in
    let n : ℤ = slice_index_or c.loop-coefficient.coefficients c.loop-coefficient.coefficient-index (pos 0) in
    let fits : SFits w128 n = search rules in
    let small = carry_small c.loop-coefficient.coefficients c.loop-coefficient.coefficient-index carry (search rules) c.loop-coefficient.invariant.small in
    let total : SFits w128 (carry +ℤ n) = omega (arith, ints, small) in
    rw (to_z-of_z w128 n fits, to_z-of_z w128 (carry +ℤ n) total)
    (record {
      small = omega (arith, small, ap weight (drop-set-lt (c.loop-coefficient.coefficient-index + 1) c.loop-coefficient.coefficients c.loop-coefficient.coefficient-index (carry +ℤ n) (omega arith)));
      same = running_step c.loop-coefficient.coefficients c.loop-coefficient.coefficient-index carry (running_sums (pos 0) c.args.coefficients.now) (search rules) c.loop-coefficient.invariant.same;
    })
