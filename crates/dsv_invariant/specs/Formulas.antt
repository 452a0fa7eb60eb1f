-- The formulas of a candidate's sentences: one composition of definitions that compute.
use Rattle.dsv_bounded.specs.Formulas.{formula_of}
use Rattle.dsv_cnf.specs.FormulaView.{FormulaView}
use Rattle.dsv_quantiser.specs.QuantisedView.{QuantisedView}
use Rattle.dsv_realise.specs.Netlists.{net_of}
use Rattle.dsv_template.specs.declared.candidate.Candidate.{Candidate}
use Rattle.dsv_template.specs.declared.verdict.SetPart.{SetPart}
use Rattle.dsv_unroll.specs.SetGoals.{set_of}

-- the formula that a sentence of the candidate is broken
unfoldable pub set_formula_of : QuantisedView → Candidate → SetPart → FormulaView
set_formula_of q candidate part = formula_of (set_of (net_of q) q.xlo q.xhi candidate part)
