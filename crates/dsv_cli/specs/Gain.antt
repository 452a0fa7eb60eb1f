-- What the gain says of a subject, and of a controller's outputs.
use Rattle.std.specs.Prelude.{◌≡◌, ℕ, suc, Ok, Err}
use Rattle.dsv_certfile.specs.Lawful.{IsRoundoffOffer}
use Rattle.dsv_certfile.specs.Limits.{most_gain_depth}
use Rattle.dsv_network.specs.declared.outlook.Outlook.TheVariants as outlook
use Rattle.dsv_quantiser.specs.QuantisedView.{QuantisedView}
use Rattle.dsv_report.specs.declared.answers.Answer.TheVariants as answer
use Rattle.dsv_report.specs.declared.answers.OutputError.{OutputError}
use Rattle.dsv_report.specs.declared.answers.OutputError.TheVariants as error
use Rattle.dsv_report.specs.declared.stop.Stop.TheVariants as stop
use Rattle.dsv_report.specs.Stops.{Outcome}
use Rattle.dsv_gain.specs.Subjects.{outlook_of}
use Rattle.dsv_realise.specs.SubjectView.{SubjectView}
use Rattle.dsv_gain.specs.Near.{IsBoundOf}
use Rattle.dsv_gain.specs.Subjects.{IsGainOf, IsBreakOf}

-- the most samples that are looked at, one more than the greatest depth of a certificate
abbrev pub most_gain_samples : ℕ
most_gain_samples = suc most_gain_depth

-- how far outputs are from those of exact runs, by an offer whose numbers are in the ranges of
-- certificates; that no bound was found says nothing
abbrev pub IsErrorOf : QuantisedView → OutputError → Type 0
IsErrorOf q error.NotSought = ⊥
IsErrorOf q error.Open = Unit {0}
IsErrorOf q (error.Within bound) = IsBoundOf q bound × IsRoundoffOffer bound.offer

-- nothing is sought of outputs
abbrev pub IsNotSought : OutputError → Type 0
IsNotSought found = found ≡ error.NotSought

-- what the gain says of a subject; `HasError` is so of what is said of outputs
abbrev pub IsOfGain : (OutputError → Type 0) → SubjectView → Outcome → Type 0
IsOfGain HasError s (Ok (answer.InRanges gain error)) =
    IsGainOf most_gain_samples s gain × HasError error
IsOfGain HasError s (Ok (answer.Overflow trace)) = IsBreakOf most_gain_samples s trace
IsOfGain HasError s (Ok (answer.OutOfRange sample value)) =
    outlook_of s most_gain_samples ≡ outlook.Leaves sample value
IsOfGain HasError s (Ok (answer.TooDeep depth)) =
    (depth ≡ most_gain_samples) × (outlook_of s most_gain_samples ≡ outlook.Deep)
IsOfGain HasError s (Err stop.NoMemory) = Unit {0}
IsOfGain HasError s other = ⊥
