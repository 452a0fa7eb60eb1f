use Rattle.std.proofs.lemmas.Option.{slice_get_within}
use Rattle.dsv_solver.proofs.Searching.{all_implied, conflict_all}
use Rattle.dsv_solver.proofs.state.Search.refute.Goals as goal

pub refute-requires-clause-implied : goal.refute-requires-clause-implied
refute-requires-clause-implied c = all_implied c.args.self.now.state.trail c.len-count.ensures.whole c.requires.stuck.zero_level

pub refute-requires-clause-known : goal.refute-requires-clause-known
refute-requires-clause-known c = slice_get_within c.args.self.now.state.clauses.clauses c.args.conflict c.requires.stuck.conflict.clause c.requires.stuck.conflict.at

pub refute-requires-clause-conflict : goal.refute-requires-clause-conflict
refute-requires-clause-conflict c = conflict_all c.args.self.now.state.clauses c.args.self.now.state.trail c.args.conflict c.requires.stuck.conflict

pub returns : goal.returns
returns c = record {
  hints = c.in_ok-hints.hints;
  derived = c.in_ok-hints.ensures;
  log_is = rw c.len-number.ensures at c.in_ok-write_step.ensures;
}
