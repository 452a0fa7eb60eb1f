-- A certificate that is accepted has words.
use Rattle.std.proofs.Common.{Option, Some, None, Ok, Err}
use Rattle.dsv_reader.specs.Controllers.{ControllerView}
use Rattle.dsv_reader.specs.Plants.{PlantView}
use Rattle.dsv_quantiser.specs.Modes.{BecomesWords}
use Rattle.dsv_quantiser.specs.QuantisedView.{QuantisedView}
use Rattle.dsv_certfile.specs.Texts.{job_of}
use Rattle.dsv_certfile.specs.declared.certificate.Certificate.{Certificate}
use Rattle.dsv_certcheck.specs.Checks.{Checked, format_check}
use Rattle.dsv_certcheck.specs.Found.{IsFoundAfter}
use Rattle.dsv_report.specs.declared.answers.Answer.{Answer}
use Rattle.dsv_report.specs.declared.answers.Answer.TheVariants as answer
use Rattle.dsv_report.specs.declared.stop.Stop.{Stop}
use Rattle.dsv_report.specs.declared.stop.Stop.TheVariants as stop
use Rattle.dsv_report.specs.declared.stop.WhichFile.TheVariants as file
use Rattle.dsv_files.specs.JobTexts.{JobTexts, of_one, with_plant}
use Rattle.dsv_cli.specs.JobRows.{ChecksTo, IsOfCheck}
use Rattle.dsv_cli.specs.Words.{IsWordless, AreWordless}
use Rattle.dsv_cli.proofs.Exact.{word_or_not}

abbrev HasWords : ControllerView → Certificate → Type 0
HasWords c cert = (q : QuantisedView) × BecomesWords c (job_of cert).design (Ok q)

words_after : (format : Checked) (c : ControllerView) (plant : Option PlantView) (cert : Certificate) → IsFoundAfter format c plant cert (Ok tt) → HasWords c cert
words_after (Ok x) c plant cert h = (h.quantised, h.becomes)
words_after (Err why) c plant cert h = absurd (cc)

words_checked : (c : ControllerView) (plant : Option PlantView) (cert : Certificate) (found : Answer) → ChecksTo c plant cert (Ok found) → HasWords c cert
words_checked c plant cert (answer.Checked certified error) h = words_after (format_check c (job_of cert).words) c plant cert h.1
words_checked c plant cert found h = absurd h

not_wordless : (c : ControllerView) (cert : Certificate) (why : Stop) → HasWords c cert → IsWordless (job_of cert).design c why → ⊥
not_wordless c cert (stop.QuantRefused file.Controller r) h k = word_or_not (job_of cert).design c h.0 r h.1 k
not_wordless c cert why h k = k

pub accepted_not_wordless : (texts : JobTexts) (cert : Certificate) (found : Answer) (why : Stop) → IsOfCheck texts cert (Ok found) → AreWordless (job_of cert).design texts why → ⊥
accepted_not_wordless (of_one c) cert found why h k = not_wordless c cert why (words_checked c None cert found h) k
accepted_not_wordless (with_plant c p) cert found why h k = not_wordless c cert why (words_checked c (Some p) cert found h) k
accepted_not_wordless texts cert found why h k = h
