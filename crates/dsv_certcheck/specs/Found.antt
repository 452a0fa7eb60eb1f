-- What the check of a certificate finds for a controller, alone or in a loop with a plant: nothing,
-- or the first line whose claim isn't so, or why there is nothing to check it against.
use Rattle.std.specs.Prelude.{◌≡◌, Option, Some, None, Result, Ok, Err}
use Rattle.dsv_fraction.specs.Ratio.{Ratio}
use Rattle.dsv_reader.specs.Controllers.{ControllerView}
use Rattle.dsv_reader.specs.Plants.{PlantView}
use Rattle.dsv_quantiser.specs.QuantisedView.{QuantisedView}
use Rattle.dsv_quantiser.specs.Modes.{BecomesWords}
use Rattle.dsv_quantiser.specs.declared.refusal.QuantRefusal.{QuantRefusal}
use Rattle.dsv_certfile.specs.Texts.{job_of}
use Rattle.dsv_certfile.specs.declared.certificate.Certificate.{Certificate}
use Rattle.dsv_certfile.specs.declared.job.CertifiedJob.{CertifiedJob}
use Rattle.dsv_certcheck.specs.Checks.{Checked, format_check, words_check}
use Rattle.dsv_certcheck.specs.LoopChecks.{words_loop_check}
use Rattle.dsv_certcheck.specs.declared.check_refusal.CheckRefusal.TheVariants as refusal

-- what is found for words that run with this sample time, alone or in a loop with the plant
abbrev pub found_of : QuantisedView → Ratio → Option PlantView → Certificate → Checked
found_of q time None cert = words_check q cert
found_of q time (Some plant) cert = words_loop_check q time plant cert

-- in the job's realisation and modes the controller becomes these words, or is refused so
abbrev pub BecomesFor : ControllerView → CertifiedJob → Result QuantisedView QuantRefusal → Type 0
BecomesFor c job outcome = BecomesWords c job.design outcome

-- This is found of the words that the controller becomes.
pub record IsFoundOf (c : ControllerView) (plant : Option PlantView) (cert : Certificate)
    (found : Checked) : Type 0 where
  pub quantised : QuantisedView
  pub becomes : BecomesFor c (job_of cert) (Ok quantised)
  pub checked : found_of quantised c.sample_time plant cert ≡ found

-- what is found for a controller whose words have the certificate's format
abbrev pub IsFoundFor : ControllerView → Option PlantView → Certificate → Checked → Type 0
IsFoundFor c plant cert (Err refusal.NoMemory) = Unit {0}
IsFoundFor c plant cert (Err (refusal.Quant why)) = BecomesFor c (job_of cert) (Err why)
IsFoundFor c plant cert found = IsFoundOf c plant cert found

-- what is found after the format: its refusal, or if it passes, what is found of the words
abbrev pub IsFoundAfter : Checked → ControllerView → Option PlantView → Certificate → Checked
    → Type 0
IsFoundAfter (Ok x) c plant cert found = IsFoundFor c plant cert found
IsFoundAfter (Err why) c plant cert found = found ≡ Err why

-- what is found for a controller, and a plant if there is one: the format is checked before all
-- else
abbrev pub IsChecked : ControllerView → Option PlantView → Certificate → Checked → Type 0
IsChecked c plant cert = IsFoundAfter (format_check c (job_of cert).words) c plant cert
