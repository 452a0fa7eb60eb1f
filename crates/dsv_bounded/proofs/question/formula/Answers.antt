use Rattle.dsv_cnf.specs.Formula.{IsSatisfiable}
use Rattle.dsv_bounded.proofs.Questions.{told_by}
use Rattle.dsv_bounded.proofs.question.formula.Goals as goal

pub returns-clause-told : goal.returns-clause-told
returns-clause-told g c =
    let t = c.in_ok-goal.goal in
    told_by (IsSatisfiable c.in_ok-blasted.blasted.formula.clauses) t.terms t.root _ _ c.in_ok-goal.ensures.asks c.in_ok-blasted.ensures.told
