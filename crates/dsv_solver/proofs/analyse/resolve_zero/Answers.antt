use Rattle.std.proofs.Common.{◌∙◌, ◌-◌, arith}
use Rattle.dsv_solver.proofs.Marking.{lowest-none}
use Rattle.dsv_solver.proofs.Walkings.{ending-step}
use Rattle.dsv_solver.proofs.analyse.resolve_zero.Goals as goal

pub resolve_at-requires-clause-implied : goal.resolve_at-requires-clause-implied
resolve_at-requires-clause-implied c =
    λ m at. c.requires.implied (c.loop-i.i - 1) m at (omega (arith, c.loop-i-test.true, c.loop-i.invariant.ending.inside))

pub resolve_at-requires-clause-lowest : goal.resolve_at-requires-clause-lowest
resolve_at-requires-clause-lowest c =
    rw (c.none.ensures.high, c.none.ensures.lowest, c.len-end.ensures.value)
    (lowest-none c.args.state.now.trail c.loop-i.set.literals c.loop-i.invariant.ending.way.met.are_false)

pub loop-i-preserved : goal.loop-i-preserved
loop-i-preserved c =
    let i = c.loop-i.invariant in
    record {
      vars = c.resolve_at.ensures.vars ∙ i.vars;
      ending = ending-step c.args.state.now.clauses c.args.state.now.trail c.args.bounds.zero_end c.args.bounds.high c.loop-i.i (c.loop-i.i - 1) c.args.first c.loop-i.set.literals c.resolve_at.new.set.literals c.loop-i.hints c.resolve_at.new.hints c.requires.justified c.requires.order (omega (arith, c.loop-i-test.true)) c.in_ok-_end.ensures.step i.ending;
    }
