-- The words that texts become in a design, and why they become none.
use Rattle.std.specs.Prelude.{Ok, Err}
use Rattle.dsv_names.specs.declared.design.Design.{Design}
use Rattle.dsv_reader.specs.Controllers.{ControllerView}
use Rattle.dsv_quantiser.specs.Modes.{BecomesWords}
use Rattle.dsv_quantiser.specs.QuantisedView.{QuantisedView}
use Rattle.dsv_cascade.specs.Cascades.{CascadeView}
use Rattle.dsv_cascade.specs.Sections.{IsCascade}
use Rattle.dsv_state_space.specs.Quantising.{BecomesStates}
use Rattle.dsv_state_space.specs.StateView.{StateView}
use Rattle.dsv_report.specs.declared.stop.Stop.{Stop}
use Rattle.dsv_report.specs.declared.stop.Stop.TheVariants as stop
use Rattle.dsv_report.specs.declared.stop.WhichFile.TheVariants as file
use Rattle.dsv_files.specs.JobTexts.{JobTexts, of_one, of_sections, of_state_file, with_plant}
use Rattle.dsv_files.specs.JobTexts.{sections_with_plant}
use Rattle.dsv_cli.specs.Cascades.{BecomeWords, IsNoCascade}

pub data JobWords : Type 0 where
  of_words : QuantisedView → JobWords
  of_series : CascadeView → JobWords
  of_state_words : StateView → JobWords

-- what the files have becomes these words
abbrev pub BecomeJobWords : Design → JobTexts → JobWords → Type 0
BecomeJobWords design (of_one c) (of_words q) = BecomesWords c design (Ok q)
BecomeJobWords design (with_plant c p) (of_words q) = BecomesWords c design (Ok q)
BecomeJobWords design (of_sections c cs) (of_series s) =
    BecomesWords c design (Ok s.first) × BecomeWords design cs s.later × IsCascade s
BecomeJobWords design (sections_with_plant c cs p) (of_series s) =
    BecomesWords c design (Ok s.first) × BecomeWords design cs s.later × IsCascade s
BecomeJobWords design (of_state_file c) (of_state_words s) =
    BecomesStates c design.rounding design.overflow (Ok s)
BecomeJobWords design texts words = ⊥

-- why a controller becomes no words
abbrev pub IsWordless : Design → ControllerView → Stop → Type 0
IsWordless design c (stop.QuantRefused file.Controller r) = BecomesWords c design (Err r)
IsWordless design c other = ⊥

-- why it becomes none
abbrev pub AreWordless : Design → JobTexts → Stop → Type 0
AreWordless design (of_one c) why = IsWordless design c why
AreWordless design (with_plant c p) why = IsWordless design c why
AreWordless design (of_sections c cs) why = IsNoCascade design c cs why
AreWordless design (sections_with_plant c cs p) why = IsNoCascade design c cs why
AreWordless design (of_state_file c) (stop.StateQuantRefused r) =
    BecomesStates c design.rounding design.overflow (Err r)
AreWordless design (of_state_file c) other = ⊥
