use Rattle.std.proofs.Common.{arith, ap, length}
use Rattle.dsv_cnf.proofs.PieceLemmas.{length-pieces}
use Rattle.dsv_cnf.specs.FormulaView.{FormulaView}
use Rattle.dsv_cnf.proofs.formula.Formula.len.Goals as goal

pub returns : goal.returns
returns c = omega (arith, length-pieces c.self.inside.literals.items c.self.inside.bounds.items, ap (λ (f : FormulaView). length f.clauses) c.self.view_is)
