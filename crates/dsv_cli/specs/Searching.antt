-- What questions about a subject's runs come to, by a search or as a formula.
use Rattle.std.specs.Prelude.{◌≡◌, ℕ, Ok, Err}
use Rattle.dsv_bounded.specs.RunAnswers.{NeverHappens, GaveUp, IsFormulaOf, IsTooLarge}
use Rattle.dsv_bounded.specs.RunQuestions.{IsWithin, IsCycle}
use Rattle.dsv_names.specs.declared.property.RunProperty.{RunProperty}
use Rattle.dsv_names.specs.declared.property.RunProperty.TheVariants as run
use Rattle.dsv_realise.specs.Runs.{IsTrace}
use Rattle.dsv_realise.specs.SubjectView.{SubjectView}
use Rattle.dsv_report.specs.declared.answers.Answer.TheVariants as answer
use Rattle.dsv_report.specs.declared.stop.Stop.TheVariants as stop
use Rattle.dsv_report.specs.Stops.{Outcome}

-- the formula of a question about runs
abbrev pub IsOfFormula : RunProperty → ℕ → SubjectView → Outcome → Type 0
IsOfFormula of_property samples s (Ok (answer.FormulaText formula)) =
    IsFormulaOf of_property samples s formula
IsOfFormula of_property samples s (Err (stop.JobSize size)) = IsTooLarge samples s size
IsOfFormula of_property samples s (Err stop.NoMemory) = Unit {0}
IsOfFormula of_property samples s other = ⊥

-- the answer to a question about runs, by a search
abbrev pub IsOfSearch : RunProperty → ℕ → ℕ → SubjectView → Outcome → Type 0
IsOfSearch of_property samples conflicts s (Ok (answer.Never log)) =
    NeverHappens of_property samples conflicts s log
IsOfSearch of_property samples conflicts s (Ok (answer.Overflow trace)) =
    (of_property ≡ run.Overflow) × IsWithin s samples × IsTrace s samples trace
IsOfSearch of_property samples conflicts s (Ok (answer.Cycles cycle)) =
    (of_property ≡ run.LimitCycle) × IsWithin s samples × IsCycle s samples cycle
IsOfSearch of_property samples conflicts s (Ok (answer.Spent log)) =
    GaveUp of_property samples conflicts s log
IsOfSearch of_property samples conflicts s (Err (stop.JobSize size)) = IsTooLarge samples s size
IsOfSearch of_property samples conflicts s (Err stop.NoMemory) = Unit {0}
IsOfSearch of_property samples conflicts s other = ⊥
