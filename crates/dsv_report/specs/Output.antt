-- What is written for an answer: its certificate, where the job wants one and there is one, and
-- else its report.
use Rattle.std.specs.Prelude.{List, ℕ, Option, Some, None, Ok, Err, if◌then◌else◌}
use Rattle.std.specs.Prelude.{option_and_then}
use Rattle.dsv_table.specs.RootSize.{is_inside}
use Rattle.dsv_table.specs.declared.finding.TableFinding.{TableFinding}
use Rattle.dsv_names.specs.declared.design.Design.{Design}
use Rattle.dsv_names.specs.declared.property.Property.{Property}
use Rattle.dsv_names.specs.declared.realisation.Realisation.TheVariants.{Dfi}
use Rattle.dsv_roundoff.specs.declared.offers.RoundoffOffer.{RoundoffOffer}
use Rattle.dsv_certfile.specs.Texts as certified
use Rattle.dsv_certfile.specs.declared.certificate.Certificate.{Certificate}
use Rattle.dsv_certfile.specs.declared.certificate.Certificate.TheVariants as certificate
use Rattle.dsv_certfile.specs.declared.job.CertifiedJob.{CertifiedJob}
use Rattle.dsv_certfile.specs.declared.job.CertWords.{CertWords}
use Rattle.dsv_certfile.specs.declared.job.Size.{Size}
use Rattle.dsv_certfile.specs.declared.job.Size.TheVariants as size
use Rattle.dsv_command.specs.Reasons.{Reason}
use Rattle.dsv_command.specs.Table.{JobFiles, states, plant_loop, Task, searches, seeks_set}
use Rattle.dsv_command.specs.Table.{measures_gain, Job}
use Rattle.dsv_report.specs.Headings.{HeadingView, property_of}
use Rattle.dsv_report.specs.declared.stop.Stop.TheVariants as stop
use Rattle.dsv_report.specs.Reasons.{reason_text}
use Rattle.dsv_report.specs.Report.{answer_text, stop_text}
use Rattle.dsv_report.specs.Stops.{Outcome}
use Rattle.dsv_report.specs.declared.answers.Answer.{Answer}
use Rattle.dsv_report.specs.declared.answers.Answer.TheVariants as answer
use Rattle.dsv_report.specs.declared.answers.OutputError.{OutputError}
use Rattle.dsv_report.specs.declared.answers.OutputError.TheVariants.{NotSought, Open, Within}

-- ---- the job of a certificate
-- the design: of that of a state-space controller its modes alone count
abbrev pub certified_design : JobFiles → Design → Design
certified_design (states file) design = record design { realisation = Dfi }
certified_design files design = design

abbrev pub certified_size : JobFiles → Task → Size
certified_size (plant_loop file plant) task = size.OfLoop
certified_size files (searches property samples conflicts) = size.Samples samples
certified_size files (seeks_set conflicts) = size.Unbounded
certified_size files measures_gain = size.Unbounded
certified_size files other = size.NoSize

-- the job, of whose words this is said, and which is about a property
abbrev pub certified_job : Job → CertWords → Property → CertifiedJob
certified_job job words p = record {
  property = p;
  design = certified_design job.files job.design;
  words = words;
  size = certified_size job.files job.task;
}

-- ---- the certificate
-- the offer that shows a bound of how far outputs are from those of exact runs, where one was found
abbrev pub offer_in : OutputError → Option RoundoffOffer
offer_in NotSought = None
offer_in Open = None
offer_in (Within bound) = Some bound.offer

-- that of a table whose first numbers are all positive
abbrev pub table_of : CertifiedJob → TableFinding → Option Certificate
table_of job found =
    if is_inside found.verdict then Some (certificate.Table job found.poly) else None

-- the certificate of an answer: that a property of bounded runs never happens, of a set that is
-- never left, that the ranges of all exact values are words at a depth, of a form that falls, or of
-- such a table
abbrev pub certificate_for : CertifiedJob → Answer → Option Certificate
certificate_for job (answer.Never log) = Some (certificate.Hints job log)
certificate_for job (answer.Always candidate logs) =
    Some (certificate.Invariant job candidate logs)
certificate_for job (answer.InRanges gain error) =
    Some (certificate.Gain job gain.depth (offer_in error))
certificate_for job (answer.Falls poly offer fall) = Some (certificate.Falls job offer)
certificate_for job (answer.StateFalls many offer fall) = Some (certificate.Falls job offer)
certificate_for job (answer.OfTable found) = table_of job found
certificate_for job other = None

-- the certificate of an answer to a job, where the job wants one
abbrev pub certificate_of : Job → CertWords → Answer → Option Certificate
certificate_of job words found = if job.certified
    then option_and_then (λ p. certificate_for (certified_job job words p) found)
    (property_of job.task) else None

-- the certificate's text, or else this
abbrev pub text_or : Option Certificate → List ℕ → List ℕ
text_or (Some c) text = certified.certificate_text c
text_or None text = text

-- the certificate that is written for what a job comes to; what is no job wants none
abbrev pub certificate_written : Option HeadingView → CertWords → Outcome → Option Certificate
certificate_written (Some asked) words (Ok found) = certificate_of asked.job words found
certificate_written asked words found = None

-- ---- what is written
-- for what a job comes to, or arguments that ask for none; a report has these lines that tell words
abbrev pub output_of : Option HeadingView → List ℕ → CertWords → Outcome → List ℕ
output_of asked lines words (Ok found) =
    text_or (certificate_written asked words (Ok found)) (answer_text asked lines found)
output_of asked lines words (Err why) = stop_text why

-- what a run writes: if the line asks for a reason and there is one, that stands in place of USAGE
abbrev pub run_text : Option Reason → Option HeadingView → List ℕ → CertWords → Outcome → List ℕ
run_text (Some reason) asked lines words (Err stop.Usage) = reason_text reason
run_text reason asked lines words found = output_of asked lines words found
