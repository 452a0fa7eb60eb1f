-- What the check of a certificate's form finds for a state-space controller: the first line whose
-- claim isn't so, or nothing. Of the job its property alone counts, and the format isn't compared.
use Rattle.std.specs.Prelude.{◌≡◌, ◌==◌, Bool, true, false, if◌then◌else◌}
use Rattle.dsv_names.specs.declared.property.Property.{Property}
use Rattle.dsv_names.specs.declared.property.Property.TheVariants as property
use Rattle.dsv_names.specs.declared.property.RootProperty.TheVariants as root
use Rattle.dsv_forms.specs.declared.offers.Falls.{Falls}
use Rattle.dsv_certfile.specs.Texts.{job_of}
use Rattle.dsv_certfile.specs.declared.certificate.Certificate.{Certificate}
use Rattle.dsv_certfile.specs.declared.certificate.Certificate.TheVariants as certificate
use Rattle.dsv_certfile.specs.declared.fault.CheckFault.TheVariants as fault
use Rattle.dsv_certfile.specs.declared.job.CertWords.{CertWords}
use Rattle.dsv_certcheck.specs.Checks.{Checked, refused, misfit, refusal_check}
use Rattle.dsv_certcheck.specs.LineNumbers.{job_line_number}
use Rattle.dsv_state_space.specs.StateForms.{state_falls_refusal}
use Rattle.dsv_state_space.specs.StateView.{StateView, states}

-- the form has a place for each state, and falls along them
abbrev pub state_offer_check : CertWords → StateView → Falls → Checked
state_offer_check w s offer = if offer.form.d == states s
    then refusal_check w offer (state_falls_refusal s offer) else misfit w

-- the property is stability
abbrev pub is_stability : Property → Bool
is_stability (property.OfRoots root.Stability) = true
is_stability other = false

-- a form of another property is a fault of the job's line, and another kind one of the kind's
abbrev pub state_check : StateView → Certificate → Checked
state_check s (certificate.Falls job offer) = if is_stability job.property
    then state_offer_check job.words s offer else refused job_line_number fault.Shape
state_check s other = misfit (job_of other).words

-- this is the certificate's offer
abbrev pub Offers : Certificate → Falls → Type 0
Offers (certificate.Falls job offer) found = found ≡ offer
Offers other found = ⊥
