-- Why a check of a certificate gives no answer.
use Rattle.dsv_certfile.specs.declared.fault.CheckFault.TheVariants as claim
use Rattle.dsv_certcheck.specs.LineNumbers.{job_line_number}
use Rattle.dsv_certcheck.specs.declared.check_refusal.CheckRefusal.{CheckRefusal}
use Rattle.dsv_certcheck.specs.declared.check_refusal.CheckRefusal.TheVariants as refusal
use Rattle.dsv_report.specs.declared.stop.CertificateFault.TheVariants as fault
use Rattle.dsv_report.specs.declared.stop.Stop.{Stop}
use Rattle.dsv_report.specs.declared.stop.Stop.TheVariants as stop
use Rattle.dsv_report.specs.declared.stop.WhichFile.TheVariants as file

-- why there is no answer where the check of a certificate refuses it: that there is no polynomial
-- to claim anything of counts as a fault of the job's line
abbrev pub stop_of_check : CheckRefusal → Stop
stop_of_check (refusal.Line line why) = stop.CertificateRefused line (fault.Check why)
stop_of_check (refusal.Wide index) =
    stop.CertificateRefused job_line_number (fault.Check claim.Shape)
stop_of_check refusal.NoZeros = stop.CertificateRefused job_line_number (fault.Check claim.Shape)
stop_of_check (refusal.Loop why) = stop.LoopRefused why
stop_of_check (refusal.Quant r) = stop.QuantRefused file.Controller r
stop_of_check (refusal.JobSize size) = stop.JobSize size
stop_of_check refusal.NoMemory = stop.NoMemory
