use Rattle.dsv_solver.proofs.Answering.{ready_restarted}
use Rattle.dsv_solver.proofs.state.Search.last_turn.Goals as goal

pub propagate-requires : goal.propagate-requires
propagate-requires c =
    let s = c.args.self.now.state in
    record { ready = rw (c.restart.ensures.clauses, c.restart.ensures.watches) (ready_restarted s.clauses s.trail c.restart.new.self.trail s.watches s.head c.restart.new.self.head c.requires.ready c.restart.ensures.trail).0 }
