-- For private contracts: what the command answers for what a search came to, or a formula.
use Rattle.std.specs.Prelude.{Result, Ok, Err}
use Rattle.dsv_cnf.specs.FormulaView.{FormulaView}
use Rattle.dsv_hints.specs.declared.search.Searched.{Searched}
use Rattle.dsv_hints.specs.declared.search.Searched.TheVariants as searched
use Rattle.dsv_meaning.specs.declared.replays.Cycle.{Cycle}
use Rattle.dsv_meaning.specs.declared.replays.Trace.{Trace}
use Rattle.dsv_bounded.specs.declared.refusals.BoundedRefusal.{BoundedRefusal}
use Rattle.dsv_bounded.specs.declared.refusals.BoundedRefusal.TheVariants as refusal
use Rattle.dsv_report.specs.declared.answers.Answer.TheVariants as answer
use Rattle.dsv_report.specs.declared.stop.Stop.{Stop}
use Rattle.dsv_report.specs.declared.stop.Stop.TheVariants as stop
use Rattle.dsv_report.specs.Stops.{Outcome}

abbrev pub stop_of_question : BoundedRefusal → Stop
stop_of_question (refusal.JobSize size) = stop.JobSize size
stop_of_question refusal.NoMemory = stop.NoMemory

abbrev pub formula_outcome : Result FormulaView BoundedRefusal → Outcome
formula_outcome (Ok formula) = Ok (answer.FormulaText formula)
formula_outcome (Err why) = Err (stop_of_question why)

abbrev pub overflow_outcome : Result (Searched Trace) BoundedRefusal → Outcome
overflow_outcome (Ok (searched.Never log)) = Ok (answer.Never log)
overflow_outcome (Ok (searched.Happens trace)) = Ok (answer.Overflow trace)
overflow_outcome (Ok (searched.Spent log)) = Ok (answer.Spent log)
overflow_outcome (Err why) = Err (stop_of_question why)

abbrev pub cycle_outcome : Result (Searched Cycle) BoundedRefusal → Outcome
cycle_outcome (Ok (searched.Never log)) = Ok (answer.Never log)
cycle_outcome (Ok (searched.Happens cycle)) = Ok (answer.Cycles cycle)
cycle_outcome (Ok (searched.Spent log)) = Ok (answer.Spent log)
cycle_outcome (Err why) = Err (stop_of_question why)
