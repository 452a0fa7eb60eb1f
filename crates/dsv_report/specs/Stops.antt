-- What a request comes to.
use Rattle.std.specs.Prelude.{Result}
use Rattle.dsv_certfile.specs.declared.fault.CertRefusal.{CertRefusal}
use Rattle.dsv_certfile.specs.declared.fault.CertRefusal.TheVariants as certificate
use Rattle.dsv_input_file.specs.declared.refusal.InputsEnd.{InputsEnd}
use Rattle.dsv_input_file.specs.declared.refusal.InputsEnd.TheVariants as inputs_end
use Rattle.dsv_loop.specs.declared.refusal.LoopStop.{LoopStop}
use Rattle.dsv_loop.specs.declared.refusal.LoopStop.TheVariants as loop_stop
use Rattle.dsv_token.specs.declared.refusal.FileRefusal.{FileRefusal}
use Rattle.dsv_token.specs.declared.refusal.FileRefusal.TheVariants as file
use Rattle.dsv_report.specs.declared.answers.Answer.{Answer}
use Rattle.dsv_report.specs.declared.stop.CertificateFault.TheVariants as fault
use Rattle.dsv_report.specs.declared.stop.InputsFault.TheVariants as inputs_fault
use Rattle.dsv_report.specs.declared.stop.Stop.{Stop}
use Rattle.dsv_report.specs.declared.stop.Stop.TheVariants as stop
use Rattle.dsv_report.specs.declared.stop.WhichFile.{WhichFile}

-- an answer, or why there is none
abbrev pub Outcome : Type 0
Outcome = Result Answer Stop

-- why there is none where this file is refused so: want of memory is no fault of it
abbrev pub stop_of_file : WhichFile → FileRefusal → Stop
stop_of_file which file.NoMemory = stop.NoMemory
stop_of_file which refusal = stop.FileRefused which refusal

-- and where the text of a certificate is
abbrev pub stop_of_text : CertRefusal → Stop
stop_of_text (certificate.Text line why) = stop.CertificateRefused line (fault.Text why)
stop_of_text certificate.NoMemory = stop.NoMemory

-- and where that of inputs is
abbrev pub stop_of_inputs : InputsEnd → Stop
stop_of_inputs (inputs_end.Refused why) = stop.InputsRefused (inputs_fault.Text why)
stop_of_inputs inputs_end.NoMemory = stop.NoMemory

-- why there is no answer where there is no polynomial of a loop
abbrev pub stop_of_loop : LoopStop → Stop
stop_of_loop (loop_stop.Refused why) = stop.LoopRefused why
stop_of_loop loop_stop.NoMemory = stop.NoMemory
