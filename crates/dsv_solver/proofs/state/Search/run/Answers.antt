use Rattle.std.proofs.Common.{arith, length}
use Rattle.dsv_solver.specs.Turns.{HasLearned}
use Rattle.dsv_solver.specs.Solving.{IsBegun, IsStuck}
use Rattle.dsv_solver.specs.declared.solver.End.TheVariants.{Stuck}
use Rattle.dsv_solver.proofs.Turning.{begun_run, count_more, ended_by, learned_more, stuck_run, used_up}
use Rattle.dsv_solver.proofs.state.Search.run.Goals as goal

pub returns-in-Some : goal.returns-in-Some
returns-in-Some c =
    let f = c.args.self.now.state.clauses in
    let h : IsStuck f c.load.new.trail c.in-Some.i = rw c.in-Some.is at c.in_ok-i.ensures in
    let b = stuck_run f c.args.self.now c.load.new.trail c.in-Some.i c.requires.begun h in
    record { logged = b.0; few = omega (arith, b.1); stuck = h; seen = b.2 }

pub loop-init : goal.loop-init
loop-init c =
    let f = c.args.self.now.state.clauses in
    let l : IsBegun f c.load.new.trail c.load.new.watches (length f.clauses) = rw c.in_default.is at c.in_ok-i.ensures in
    let b = begun_run f c.args.self.now c.load.new.trail c.load.new.watches c.requires.begun l in
    record { searching = b.0; count = b.1; seen = b.2 }

pub turn-requires-clause-few : goal.turn-requires-clause-few
turn-requires-clause-few c =
    omega (arith, c.loop.invariant.count, c.loop-test.true, c.loop.invariant.searching.logged.count, c.requires.few)

pub returns-in-Some-2 : goal.returns-in-Some-2
returns-in-Some-2 c =
    let i = c.loop.invariant in
    ended_by c.args.self.now.state.clauses c.args.conflicts c.loop.self c.turn.new.self c.in-Some-2.end i.searching (omega (arith, i.count, c.loop-test.true)) (rw c.in-Some-2.is at c.in_ok-end.ensures)

pub loop-preserved : goal.loop-preserved
loop-preserved c =
    let i = c.loop.invariant in
    let l : HasLearned c.loop.self c.turn.new.self = rw c.in_default-2.is at c.in_ok-end.ensures in
    record {
      searching = learned_more c.args.self.now.state.clauses c.loop.self c.turn.new.self i.searching l;
      count = count_more c.loop.counter c.loop.self c.turn.new.self i.count l;
      seen = l.seen;
    }

pub returns-in-None : goal.returns-in-None
returns-in-None c =
    let i = c.loop.invariant in
    used_up c.args.self.now.state.clauses c.args.conflicts c.loop.self c.last_turn.new.self i.searching (omega (arith, i.count, c.loop-test.false)) (rw c.in-None.is at c.in_ok-last_turn.ensures)

pub returns-in-Some-3 : goal.returns-in-Some-3
returns-in-Some-3 c =
    let i = c.loop.invariant in
    ended_by c.args.self.now.state.clauses c.args.conflicts c.loop.self c.last_turn.new.self (Stuck c.in-Some-3.i) i.searching (omega (arith, i.count, c.loop-test.false)) (rw c.in-Some-3.is at c.in_ok-last_turn.ensures)
