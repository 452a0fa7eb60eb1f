-- What a simulation says of a subject.
use Rattle.std.specs.Prelude.{Bool, true, false, List, Ok, Err, ℤ}
use Rattle.dsv_realise.specs.SubjectView.{SubjectView}
use Rattle.dsv_report.specs.declared.answers.Answer.TheVariants as answer
use Rattle.dsv_report.specs.declared.stop.Stop.TheVariants as stop
use Rattle.dsv_report.specs.Stops.{Outcome}
use Rattle.dsv_realise.specs.Runs.{IsRunOver}
use Rattle.dsv_word.specs.Words.{IsFirstOutside}

-- the run over these inputs, of which the outputs alone are written if the flag is set, or the
-- first of them that is no word
abbrev pub IsOfRun : SubjectView → List ℤ → Bool → Outcome → Type 0
IsOfRun s inputs outputs (Err (stop.InputRange index value)) =
    IsFirstOutside s.runs.format inputs index value
IsOfRun s inputs outputs (Err stop.NoMemory) = Unit {0}
IsOfRun s inputs outputs (Err why) = ⊥
IsOfRun s inputs false (Ok (answer.Simulated found)) = IsRunOver s inputs found
IsOfRun s inputs true (Ok (answer.Outputs found)) = IsRunOver s inputs found
IsOfRun s inputs outputs (Ok found) = ⊥
