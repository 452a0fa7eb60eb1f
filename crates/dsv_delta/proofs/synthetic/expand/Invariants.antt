use Rattle.dsv_delta.proofs.Table.{AreDivided}
use Rattle.dsv_delta.proofs.synthetic.expand.Given as goal

abbrev pub invariant-loop-len : goal.invariant-loop-len
invariant-loop-len l = AreDivided l.fn.coefficients l.len l.coefficients

abbrev pub decreases-loop-len : goal.decreases-loop-len
decreases-loop-len l = l.len
