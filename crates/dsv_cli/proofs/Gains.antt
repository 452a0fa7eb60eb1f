-- What answers by the gain say.
use Rattle.std.proofs.Common.{◌≡◌, sym, ◌∙◌}
use Rattle.std.specs.Prelude.{Ok, Err}
use Rattle.dsv_gain.specs.Safe.{IfSafe}
use Rattle.dsv_gain.specs.Subjects.{outlook_of, HoldsAlways, NeverOverflows}
use Rattle.dsv_network.specs.declared.outlook.Gain.{Gain}
use Rattle.dsv_network.specs.declared.outlook.Outlook.{Outlook}
use Rattle.dsv_network.specs.declared.outlook.Outlook.TheVariants as outlook
use Rattle.dsv_report.specs.declared.answers.Answer.TheVariants as answer
use Rattle.dsv_report.specs.declared.answers.OutputError.{OutputError}
use Rattle.dsv_report.specs.declared.stop.Stop.TheVariants as stop
use Rattle.dsv_report.specs.Stops.{Outcome}
use Rattle.dsv_realise.specs.SubjectView.{SubjectView}
use Rattle.dsv_cli.specs.Causes.{IsOfLeft}
use Rattle.dsv_cli.specs.Gain.{IsOfGain, most_gain_samples}
use Rattle.dsv_gain.specs.Subjects.{IsGainOf}

-- all ranges are ones of words
pub safe_is : (s : SubjectView) (found : Outlook) (gain : Gain) → found ≡ outlook.Safe gain → found ≡ outlook_of s most_gain_samples → IfSafe found (λ g. HoldsAlways s g.ranges) → IfSafe found (λ g. NeverOverflows s) → IsGainOf most_gain_samples s gain
safe_is s found gain e made holds never = record { found = sym made ∙ e; holds = rw e at holds; never = rw e at never }

-- some range leaves the words
pub left_is : (E : OutputError → Type 0) (s : SubjectView) (found : Outcome) → IsOfLeft s found → IsOfGain E s found
left_is E s (Ok (answer.Overflow trace)) h = h
left_is E s (Ok (answer.OutOfRange sample value)) h = h
left_is E s (Err stop.NoMemory) h = h
left_is E s found h = absurd h
