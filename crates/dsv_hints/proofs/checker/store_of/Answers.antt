use Rattle.std.proofs.Common.{◌≡◌, ◌+◌, arith}
use Rattle.dsv_hints.proofs.Starting.{stored-more}
use Rattle.dsv_hints.proofs.checker.store_of.Goals as goal

pub loop-i-preserved : goal.loop-i-preserved
loop-i-preserved c =
    let id : c.from.result + 1 ≡ c.loop-i.i + 1 = omega arith in
    let room = c.in_ok-reserve.ensures.ok in
    stored-more c.args.formula.now c.loop-i.i c.loop-i.store c.reserve.new.self c.push.new.self (c.from.result + 1) c.clause-clause.result.now c.loop-i.invariant room c.push.ensures id c.clause-clause.ensures.at
