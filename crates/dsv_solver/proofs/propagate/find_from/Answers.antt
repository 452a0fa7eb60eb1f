use Rattle.std.proofs.Common.{arith, sym, ◌∙◌}
use Rattle.dsv_solver.proofs.Others.{at}
use Rattle.dsv_solver.proofs.propagate.find_from.Goals as goal

pub returns-then-not-is_false : goal.returns-then-not-is_false
returns-then-not-is_false c =
    let o = at c.args.clause.now c.loop-i.i c.index-clause-i.result c.args.other (omega (arith, c.loop-i-test.true)) c.index-clause-i.is (sym c.is.ensures ∙ c.if-not-is.true) in
    record { stands = o.stands; apart = o.apart; not_false = sym c.is_false.ensures ∙ c.if-not-is_false.true }
