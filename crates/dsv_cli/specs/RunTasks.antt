-- For private contracts: what a question about runs comes to for a subject.
use Rattle.std.specs.Prelude.{◌≤◌, length}
use Rattle.dsv_cli.specs.declared.run_task.RunTask.{RunTask}
use Rattle.dsv_cli.specs.declared.run_task.RunTask.TheVariants as tasks
use Rattle.dsv_cli.specs.Gain.{IsNotSought, IsOfGain}
use Rattle.dsv_cli.specs.Searching.{IsOfSearch}
use Rattle.dsv_cli.specs.Simulating.{IsOfRun}
use Rattle.dsv_realise.specs.SubjectView.{SubjectView}
use Rattle.dsv_report.specs.Stops.{Outcome}

-- a run has at most 65,536 inputs
abbrev pub IsAskable : RunTask → Type 0
IsAskable (tasks.Simulate inputs outputs) = length inputs.now ≤ 65536
IsAskable other = Unit {0}

abbrev pub IsOfRunTask : RunTask → SubjectView → Outcome → Type 0
IsOfRunTask (tasks.Search question budget) s found =
    IsOfSearch question.now.property question.now.samples budget.now.conflicts s found
IsOfRunTask tasks.MeasureGain s found = IsOfGain IsNotSought s found
IsOfRunTask (tasks.Simulate inputs outputs) s found = IsOfRun s inputs.now outputs found
