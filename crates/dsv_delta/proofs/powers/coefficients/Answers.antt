use Rattle.std.proofs.Common.{◌≡◌, ◌∙◌, ◌-◌, ◌+◌, ap, arith, sym, rules, pos, length, unsigned_abs, slice_index_or}
use Rattle.std.proofs.lemmas.Int.{to_z-of_z}
use mir.Syntax.{w128}
use mir.Val.{SFits}
use Rattle.dsv_algebra.specs.Vectors.{vector_of}
use Rattle.dsv_delta.proofs.Overs.{next_coefficient, wide_coefficient}
use Rattle.dsv_delta.proofs.powers.coefficients.Goals as goal

pub returns-in-Err-clause-value : goal.returns-in-Err-clause-value
returns-in-Err-clause-value c =
    let fits : SFits w128 (slice_index_or c.args.sums.now c.loop-sum.sum-index (pos 0)) = search rules in
    let from = simp to_z-of_z at c.from.ensures in
    let at : c.loop-sum.sum-index ≡ c.len-index.result = omega arith in
    sym c.loop-sum.invariant.same
    ∙ wide_coefficient c.args.list c.args.delta.now (unsigned_abs c.args.common) (vector_of c.args.sums.now) (length c.args.sums.now - c.loop-sum.sum-index) (length c.args.sums.now - (c.loop-sum.sum-index + 1))
    c.len-index.result c.loop-sum.out.items c.from.result c.in-Err.field-0 (omega arith) c.len-index.ensures.value (from ∙ ap (vector_of c.args.sums.now) at) (sym c.bounded_over_power.ensures ∙ c.in-Err.is)

pub loop-sum-preserved : goal.loop-sum-preserved
loop-sum-preserved c = record {
  places = omega arith;
  same =
      let fits : SFits w128 (slice_index_or c.args.sums.now c.loop-sum.sum-index (pos 0)) = search rules in
      let from = simp to_z-of_z at c.from.ensures in
      let at : c.loop-sum.sum-index ≡ c.len-index.result = omega arith in
      rw c.push.ensures.items
      (next_coefficient c.args.list c.args.delta.now (unsigned_abs c.args.common) (vector_of c.args.sums.now) (length c.args.sums.now - c.loop-sum.sum-index) (length c.args.sums.now - (c.loop-sum.sum-index + 1))
      c.len-index.result c.loop-sum.out.items c.from.result c.in-Ok.coefficient (omega arith) c.len-index.ensures.value (from ∙ ap (vector_of c.args.sums.now) at) (sym c.bounded_over_power.ensures ∙ c.in-Ok.is)
      ∙ c.loop-sum.invariant.same);
}
