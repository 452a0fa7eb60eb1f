-- The formulas of bounded jobs: one composition of definitions that compute.
use Rattle.std.specs.Prelude.{ℕ, ℤ}
use Rattle.dsv_blast.specs.Blast.{cnf_of}
use Rattle.dsv_cnf.specs.FormulaView.{FormulaView}
use Rattle.dsv_netlist.specs.Nodes.{Net}
use Rattle.dsv_rewrite.specs.Rules.{simple_of}
use Rattle.dsv_term.specs.Building.{Built}
use Rattle.dsv_unroll.specs.CycleGoals.{cycle_of}
use Rattle.dsv_unroll.specs.Goals.{overflow_of}

-- the clauses of a goal, which is simplified before
abbrev pub clauses_of_simple : Built → FormulaView
clauses_of_simple goal = cnf_of goal.terms goal.id

abbrev pub formula_of : Built → FormulaView
formula_of goal = clauses_of_simple (simple_of goal.terms goal.id)

-- the formula of an overflow of a netlist within so many samples, over inputs from `low` to `high`
unfoldable pub net_overflow_formula_of : Net → ℤ → ℤ → ℕ → FormulaView
net_overflow_formula_of net low high samples = formula_of (overflow_of net low high samples)

-- the formula of a limit cycle of a netlist of a period up to this
unfoldable pub net_cycle_formula_of : Net → ℕ → FormulaView
net_cycle_formula_of net periods = formula_of (cycle_of net periods)
