-- What the file of a state-space controller has, and what its form or its table comes to.
use Rattle.std.specs.Prelude.{◌≡◌, Ok, Err}
use Rattle.dsv_state_space.specs.StateView.{StateView}
use Rattle.dsv_certfile.specs.declared.certificate.Certificate.{Certificate}
use Rattle.dsv_certcheck.specs.StateChecks.{state_check, Offers}
use Rattle.dsv_certcheck.specs.declared.check_refusal.CheckRefusal.TheVariants as refusal
use Rattle.dsv_state_table.specs.StateFindings.{IsStateFinding}
use Rattle.dsv_report.specs.declared.answers.Answer.TheVariants as answer
use Rattle.dsv_report.specs.declared.stop.CertificateFault.TheVariants as fault
use Rattle.dsv_report.specs.declared.stop.Stop.TheVariants as stop
use Rattle.dsv_report.specs.Stops.{Outcome}
use Rattle.dsv_state_space.specs.StateForms.{ShowsStateFall}

-- ---- forms
-- a form that was sought; that none was found says nothing of the controller
abbrev pub IsOfSoughtForm : StateView → Outcome → Type 0
IsOfSoughtForm s (Ok (answer.StateFalls many offer fall)) = ShowsStateFall s many offer fall
IsOfSoughtForm s (Ok answer.NoStateForm) = Unit {0}
IsOfSoughtForm s other = ⊥

-- the table of the characteristic polynomial; that none shows a form says nothing of the controller
abbrev pub IsOfStateTable : StateView → Outcome → Type 0
IsOfStateTable s (Ok (answer.OfTable found)) = IsStateFinding s found
IsOfStateTable s (Ok answer.NoStateForm) = Unit {0}
IsOfStateTable s (Err stop.NoMemory) = Unit {0}
IsOfStateTable s other = ⊥

-- the certificate's form is accepted, or its first line whose claim isn't so is named
abbrev pub IsOfForm : StateView → Certificate → Outcome → Type 0
IsOfForm s c (Ok (answer.StateFalls many offer fall)) =
    ShowsStateFall s many offer fall × Offers c offer × (state_check s c ≡ Ok tt)
IsOfForm s c (Err (stop.CertificateRefused line (fault.Check why))) =
    state_check s c ≡ Err (refusal.Line line why)
IsOfForm s c other = ⊥
