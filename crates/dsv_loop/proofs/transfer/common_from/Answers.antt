use Rattle.std.proofs.Common.{arith}
use Rattle.dsv_loop.proofs.Multiples.{number_positive, more_positive, common_more}
use Rattle.dsv_loop.proofs.transfer.common_from.Goals as goal

pub common_multiple-requires-clause-second : goal.common_multiple-requires-clause-second
common_multiple-requires-clause-second c =
    number_positive c.in_ok-denominator.field-0 c.fraction-item.result.den c.in_ok-denominator.ensures.value c.denominator.ensures.positive

pub loop-fraction-preserved : goal.loop-fraction-preserved
loop-fraction-preserved c =
    let l = c.loop-fraction in
    let q = c.fraction-item.result in
    let x = c.in_ok-denominator.field-0 in
    let m = c.in_ok-common.common in
    let some = number_positive x q.den c.in_ok-denominator.ensures.value c.denominator.ensures.positive in
    record {
      positive = more_positive l.common x m l.invariant.positive some c.in_ok-common.ensures;
      same = common_more c.args.fractions.now l.fraction-index q q l.common x m _ (omega arith) c.fraction-item.is c.in_ok-denominator.ensures.value c.in_ok-common.ensures l.invariant.same;
    }
