use Rattle.std.proofs.Common.{◌≡◌, refl, arith}
use Rattle.dsv_meaning.specs.Equations.{order}
use Rattle.dsv_realise.proofs.Piecewise.{newest_input}
use Rattle.dsv_realise.proofs.summands.direct_summands.Goals as goal

pub returns-clause-value : goal.returns-clause-value
returns-clause-value c =
    let e : c.order-order.result ≡ order c.args.quantised.now = omega (arith, c.order-order.ensures.value) in
    rw (c.push_feedback.ensures.value, c.forward_summands-summands.ensures.value, newest_input c.args.quantised.now.b, e) refl
