use Rattle.std.proofs.Common.{sym, ◌∙◌}
use Rattle.dsv_solver.proofs.Answering.{ready_restarted}
use Rattle.dsv_solver.proofs.state.Search.turn.Goals as goal

pub returns-then-is_due : goal.returns-then-is_due
returns-then-is_due c =
    let s = c.learn.new.self.state in
    let r = ready_restarted s.clauses s.trail c.restart.new.self.trail s.watches s.head c.restart.new.self.head c.in_ok-learn.ensures.ready c.restart.ensures.trail in
    record {
      ready = rw (c.restart.ensures.clauses, c.restart.ensures.watches) r.0;
      grown = rw c.restart.ensures.clauses (rw c.advance.ensures.clauses at c.in_ok-learn.ensures.grown);
      seen = c.in_ok-learn.ensures.seen ∙ sym r.2;
    }
