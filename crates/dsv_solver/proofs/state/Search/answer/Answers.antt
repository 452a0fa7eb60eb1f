use Rattle.dsv_solver.specs.Turns.{IsFilled, IsRefutable}
use Rattle.dsv_solver.proofs.Turning.{model_by, refutation_of, spent_of}
use Rattle.dsv_solver.proofs.state.Search.answer.Goals as goal

pub returns-in-None-clause-spent : goal.returns-in-None-clause-spent
returns-in-None-clause-spent c =
    rw c.take_log.ensures (spent_of c.args.self.now.state.clauses c.args.conflicts c.run.new.self (rw c.in-None.is at c.in_ok-run.ensures))

pub returns-in_ok-model-in-Some-Full-clause-model :
    goal.returns-in_ok-model-in-Some-Full-clause-model
returns-in_ok-model-in-Some-Full-clause-model c =
    let d : IsFilled c.args.self.now.state.clauses c.run.new.self = rw (c.in-Some-Full.is, c.in-Some-Full.field-0-is) at c.in_ok-run.ensures in
    model_by c.args.self.now.state.clauses c.run.new.self c.in_ok-model-in-Some-Full.field-0 d c.in_ok-model-in-Some-Full.ensures c.vars-vars.ensures.over

pub returns-in_ok-refute-in-Some-Stuck-clause-refuted :
    goal.returns-in_ok-refute-in-Some-Stuck-clause-refuted
returns-in_ok-refute-in-Some-Stuck-clause-refuted c =
    let d : IsRefutable c.args.self.now.state.clauses c.args.conflicts c.run.new.self c.in-Some-Stuck.i = rw (c.in-Some-Stuck.is, c.in-Some-Stuck.field-0-is) at c.in_ok-run.ensures in
    rw c.take_log-in-Some-Stuck.ensures (refutation_of c.args.self.now.state.clauses c.args.conflicts c.in-Some-Stuck.i c.run.new.self c.refute.new.self.log d c.in_ok-refute-in-Some-Stuck.ensures)
