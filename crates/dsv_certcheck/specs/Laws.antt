-- What the check refuses for formats and for loops: a certificate says whether it is of a loop.
use Rattle.std.specs.Prelude.{◌≡◌, ◌↔◌, ℕ, Option, None, Err}
use Rattle.dsv_fraction.specs.Ratio.{Ratio}
use Rattle.dsv_loop.specs.declared.refusal.LoopRefusal.{LoopRefusal}
use Rattle.dsv_reader.specs.Controllers.{ControllerView}
use Rattle.dsv_reader.specs.Plants.{PlantView}
use Rattle.dsv_quantiser.specs.QuantisedView.{QuantisedView}
use Rattle.dsv_certfile.specs.Texts.{job_of}
use Rattle.dsv_certfile.specs.declared.certificate.Certificate.{Certificate}
use Rattle.dsv_certfile.specs.declared.fault.CheckFault.TheVariants as fault
use Rattle.dsv_certfile.specs.declared.job.Size.TheVariants as size
use Rattle.dsv_certcheck.specs.Checks.{format_check, misfit, refused, words_check}
use Rattle.dsv_certcheck.specs.Found.{IsChecked}
use Rattle.dsv_certcheck.specs.LoopChecks.{words_loop_check}
use Rattle.dsv_certcheck.specs.declared.check_refusal.CheckRefusal.TheVariants as refusal

-- the check refuses a certificate for its format exactly if the comparison does, at the same line
abbrev pub AreOfFormats : Type 0
AreOfFormats =
    (c : ControllerView) (plant : Option PlantView) (cert : Certificate) (line : ℕ)
    → IsChecked c plant cert (refused line fault.Format)
    ↔ (format_check c (job_of cert).words ≡ refused line fault.Format)

-- if no plant stands beside the controller, no loop is refused
abbrev pub NoLoopIsRefused : Type 0
NoLoopIsRefused = (c : ControllerView) (cert : Certificate) (why : LoopRefusal)
    → IsChecked c None cert (Err (refusal.Loop why)) → ⊥

-- a certificate of a loop fits no controller alone
abbrev pub LoopsMisfitAlone : Type 0
LoopsMisfitAlone = (q : QuantisedView) (cert : Certificate)
    → (job_of cert).size ≡ size.OfLoop → words_check q cert ≡ misfit (job_of cert).words

-- one that isn't of a loop fits no controller beside a plant
abbrev pub OthersMisfitLoops : Type 0
OthersMisfitLoops =
    (q : QuantisedView) (time : Ratio) (plant : PlantView) (cert : Certificate)
    → ((job_of cert).size ≡ size.OfLoop → ⊥)
    → words_loop_check q time plant cert ≡ misfit (job_of cert).words
