-- The texts of the answers to checks of certificates.
use Rattle.std.specs.Prelude.{ℕ, List, [], ◌∷◌, ◌++◌, codes, pos}
use Rattle.std.specs.Fmt.{signed_decimal}
use Rattle.dsv_certfile.specs.declared.fault.CheckFault.TheVariants as check
use Rattle.dsv_certfile.specs.declared.fault.TextFault.TheVariants as text
use Rattle.dsv_certfile.specs.declared.job.CertifiedJob.{CertifiedJob}
use Rattle.dsv_certfile.specs.declared.job.Size.{Size}
use Rattle.dsv_certfile.specs.declared.job.Size.TheVariants as size
use Rattle.dsv_report.specs.Fragments.{concatenation}
use Rattle.dsv_report.specs.Lines.{property_text, realisation_text, number_line}
use Rattle.dsv_report.specs.declared.stop.CertificateFault.{CertificateFault}
use Rattle.dsv_report.specs.declared.stop.CertificateFault.TheVariants as fault

-- ---- what is shown
-- over how many samples, or of the loop with a plant, up to the end of the line
abbrev pub size_line : Size → List ℕ
size_line size.NoSize = codes "\n"
size_line (size.Samples k) = number_line (codes " samples ") k
size_line size.Unbounded = codes " unbounded\n"
size_line size.OfLoop = codes " plant\n"

unfoldable pub accepted : List ℕ
accepted = codes "CERTIFICATE ACCEPTED\n"

-- the property that a certificate shows
abbrev pub checked_job_text : CertifiedJob → List ℕ
checked_job_text job = accepted
    ++ (property_text job.property
    ++ (realisation_text job.design.realisation ++ size_line job.size))

-- ---- refusals
unfoldable pub refused : List ℕ
refused = codes "CERTIFICATE REFUSED line "

-- the code and the name of a fault
unfoldable pub fault_name : CertificateFault → List ℕ
fault_name (fault.Text text.Version) = codes " code 1 VERSION\n"
fault_name (fault.Text text.Kind) = codes " code 2 KIND\n"
fault_name (fault.Text text.Number) = codes " code 3 NUMBER\n"
fault_name (fault.Text text.Line) = codes " code 4 LINE\n"
fault_name (fault.Text text.End) = codes " code 5 END\n"
fault_name (fault.Check check.Step) = codes " code 6 STEP\n"
fault_name (fault.Check check.Form) = codes " code 7 FORM\n"
fault_name (fault.Check check.Shape) = codes " code 8 SHAPE\n"
fault_name (fault.Check check.Format) = codes " code 10 FORMAT\n"
fault_name (fault.Check check.Gain) = codes " code 11 GAIN\n"
fault_name (fault.Check check.Error) = codes " code 12 ERROR\n"
fault_name (fault.Check check.Table) = codes " code 13 TABLE\n"
fault_name fault.TooLong = codes " code 9 TOO_LONG\n"

abbrev pub certificate_text : ℕ → CertificateFault → List ℕ
certificate_text line f = concatenation (refused ∷ signed_decimal (pos line) ∷ fault_name f ∷ [])
