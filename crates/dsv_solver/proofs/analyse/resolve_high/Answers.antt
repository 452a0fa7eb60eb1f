use Rattle.std.proofs.Common.{◌∙◌, ◌-◌, arith}
use Rattle.dsv_solver.proofs.Walkings.{walking-step}
use Rattle.dsv_solver.proofs.analyse.resolve_high.Goals as goal

pub resolve_at-requires-clause-implied : goal.resolve_at-requires-clause-implied
resolve_at-requires-clause-implied c =
    λ m at. c.requires.implied (c.loop-lowest.i - 1) m at (omega (arith, c.loop-lowest-test.true, c.loop-lowest.invariant.walking.up))

pub loop-lowest-preserved : goal.loop-lowest-preserved
loop-lowest-preserved c =
    let i = c.loop-lowest.invariant in
    record {
      vars = c.resolve_at.ensures.vars ∙ i.vars;
      walking = walking-step c.args.state.now.clauses c.args.state.now.trail c.args.bounds.zero_end c.args.bounds.high c.loop-lowest.i (c.loop-lowest.i - 1) c.loop-lowest.lowest c.in_ok-lowest.lowest c.loop-lowest.set.literals c.resolve_at.new.set.literals c.loop-lowest.hints c.resolve_at.new.hints c.requires.justified c.requires.fine (omega (arith, c.loop-lowest-test.true)) c.loop-lowest-test.true c.in_ok-lowest.ensures.step c.in_ok-lowest.ensures.lowest i.walking;
    }
