use Rattle.std.proofs.Common.{refl, arith}
use Rattle.dsv_delta.proofs.Table.{not_yet, one_more, all_done}
use Rattle.dsv_delta.proofs.synthetic.expand.Goals as goal

pub loop-len-init : goal.loop-len-init
loop-len-init c = not_yet c.args.coefficients.now _ refl c.requires

pub loop-len-preserved : goal.loop-len-preserved
loop-len-preserved c =
    rw c.divide.ensures (one_more c.args.coefficients.now c.loop-len.coefficients c.loop-len.len c.loop-len.invariant (omega arith))

pub returns-clause-sums : goal.returns-clause-sums
returns-clause-sums c = all_done c.args.coefficients.now c.loop-len.coefficients c.loop-len.len c.loop-len.invariant (omega arith)
