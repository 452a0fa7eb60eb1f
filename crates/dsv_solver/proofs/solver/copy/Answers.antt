use Rattle.std.proofs.Common.{◌++◌, ◌∷◌, [], ap, ◌∙◌}
use Rattle.dsv_cnf.specs.FormulaView.{FormulaView}
use Rattle.dsv_solver.proofs.Loads.{take_next}
use Rattle.dsv_solver.proofs.solver.copy.Goals as goal

pub loop-i-preserved : goal.loop-i-preserved
loop-i-preserved c =
    let next = take_next c.args.formula.now.clauses c.loop-i.i c.clause.result.now c.clause.ensures.at in
    rw next (c.in_ok-push_clause.ensures.ok ∙ ap (λ (f : FormulaView). record f { clauses = f.clauses ++ c.clause.result.now ∷ [] }) c.loop-i.invariant)
