use Rattle.dsv_solver.proofs.solver.solve.Goals as goal

pub returns-clause-model : goal.returns-clause-model
returns-clause-model c = rw c.in_ok-search.ensures.clauses at c.answer.ensures.model

pub returns-clause-refuted : goal.returns-clause-refuted
returns-clause-refuted c = rw c.in_ok-search.ensures.clauses at c.answer.ensures.refuted

pub returns-clause-spent : goal.returns-clause-spent
returns-clause-spent c = rw c.in_ok-search.ensures.clauses at c.answer.ensures.spent
