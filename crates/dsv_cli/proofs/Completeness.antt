-- Each outcome is a verdict, a refusal, a fault or want of memory.
use Rattle.std.proofs.Common.{suc, inl, inr, refl, ℕ, List}
use Rattle.std.specs.Prelude.{◌≡◌, ◌⊎◌, Some, Ok, Err}
use Rattle.dsv_base.specs.Counts.{Rose}
use Rattle.dsv_base.specs.Seen.{FilesSeen}
use Rattle.dsv_names.specs.declared.design.Design.{Design}
use Rattle.dsv_command.specs.Table.{JobFiles, controller, cascade, states, plant_loop, cascade_loop, Task, checks_form, checks_ellipsoid, Request, does, checks, generates, runs_file, emits_file_test}
use Rattle.dsv_report.specs.Headings.{verdict_status}
use Rattle.dsv_report.specs.Report.{verdict_of, stop_status}
use Rattle.dsv_report.specs.Stops.{Outcome}
use Rattle.dsv_report.specs.declared.stop.Stop.{Stop}
use Rattle.dsv_report.specs.declared.stop.Stop.TheVariants as stop
use Rattle.dsv_report.specs.declared.stop.WhichFile.{WhichFile}
use Rattle.dsv_report.specs.declared.verdict.Verdict.{Verdict}
use Rattle.dsv_report.specs.declared.verdict.Verdict.TheVariants.{Successful, Failed, Inconclusive, Simulation, Plain}
use Rattle.dsv_files.specs.JobTexts.{IsLaterUnread}
use Rattle.dsv_cli.specs.Completeness.{IsVerdict, IsRefusedByNone, IsDecidedBy, AreDecided}
use Rattle.dsv_cli.specs.JobRows.{IsJobRow, IsCheckOfRow, IsAnswered}
use Rattle.dsv_cli.specs.Words.{AreWordless}
use Rattle.dsv_files.specs.JobTexts.{JobTexts, of_one, of_sections, of_state_file, with_plant, sections_with_plant, AreUnread, IsEvidenceUnread}
use Rattle.dsv_cli.proofs.ExactTasks.{no_task_fault, no_check_fault}
use Rattle.dsv_files.specs.Files.{a_controller, a_section, a_state_controller, a_plant, a_certificate, an_ellipsoid, some_inputs}
use Rattle.dsv_files.proofs.FileBytes.{file_rose}

answer_verdict : (v : Verdict) → IsVerdict (verdict_status v)
answer_verdict Successful = inl refl
answer_verdict Failed = inr (inl refl)
answer_verdict Inconclusive = inr (inr refl)
answer_verdict Simulation = inl refl
answer_verdict Plain = inl refl

abbrev stopped : Stop → Outcome
stopped why = Err why

-- a stop is a refusal, or a fault of a read, or there was no memory
stop_decided : (old new : FilesSeen) (HasRow : Outcome → Type 0) → ((which : WhichFile) → HasRow (Err (stop.ReadFault which)) → Rose old.faults new.faults)
    → (why : Stop) → HasRow (Err why) → IsRefusedByNone HasRow → (Rose old.faults new.faults → ⊥) → IsVerdict (stop_status why) ⊎ (stopped why ≡ Err stop.NoMemory)
stop_decided old new HasRow rose stop.Usage row none calm = absurd (none (Err stop.Usage) (inl refl) row)
stop_decided old new HasRow rose (stop.FileRefused which r) row none calm = absurd (none (Err (stop.FileRefused which r)) (inr (inl refl)) row)
stop_decided old new HasRow rose (stop.QuantRefused which r) row none calm = absurd (none (Err (stop.QuantRefused which r)) (inr (inl refl)) row)
stop_decided old new HasRow rose (stop.CascadeRefused r) row none calm = absurd (none (Err (stop.CascadeRefused r)) (inr (inl refl)) row)
stop_decided old new HasRow rose (stop.StateRefused r) row none calm = absurd (none (Err (stop.StateRefused r)) (inr (inl refl)) row)
stop_decided old new HasRow rose (stop.StateQuantRefused r) row none calm = absurd (none (Err (stop.StateQuantRefused r)) (inr (inl refl)) row)
stop_decided old new HasRow rose (stop.LoopRefused r) row none calm = absurd (none (Err (stop.LoopRefused r)) (inr (inl refl)) row)
stop_decided old new HasRow rose (stop.InputRange index value) row none calm = absurd (none (Err (stop.InputRange index value)) (inr (inl refl)) row)
stop_decided old new HasRow rose (stop.FileTooLong which) row none calm = absurd (none (Err (stop.FileTooLong which)) (inr (inl refl)) row)
stop_decided old new HasRow rose (stop.JobSize size) row none calm = absurd (none (Err (stop.JobSize size)) (inr (inr (inl refl))) row)
stop_decided old new HasRow rose (stop.WideCode value) row none calm = absurd (none (Err (stop.WideCode value)) (inr (inr (inl refl))) row)
stop_decided old new HasRow rose (stop.InputsRefused r) row none calm = absurd (none (Err (stop.InputsRefused r)) (inr (inl refl)) row)
stop_decided old new HasRow rose (stop.EllipsoidText r) row none calm = absurd (none (Err (stop.EllipsoidText r)) (inr (inr (inr refl))) row)
stop_decided old new HasRow rose (stop.EllipsoidRefused r) row none calm = absurd (none (Err (stop.EllipsoidRefused r)) (inr (inr (inr refl))) row)
stop_decided old new HasRow rose (stop.CertificateRefused line fault) row none calm = absurd (none (Err (stop.CertificateRefused line fault)) (inr (inr (inr refl))) row)
stop_decided old new HasRow rose (stop.ReadFault which) row none calm = absurd (calm (rose which row))
stop_decided old new HasRow rose stop.NoMemory row none calm = inr refl

decided : (old new : FilesSeen) (HasRow : Outcome → Type 0) → ((which : WhichFile) → HasRow (Err (stop.ReadFault which)) → Rose old.faults new.faults) → IsDecidedBy old new HasRow
decided old new HasRow rose (Ok found) row none calm = inl (answer_verdict (verdict_of found))
decided old new HasRow rose (Err why) row none calm = stop_decided old new HasRow rose why row none calm

-- ---- faults of reads
later_rose : (old new : FilesSeen) (names : List (List ℕ)) (which : WhichFile) → IsLaterUnread old new names (stop.ReadFault which) → Rose old.faults new.faults
later_rose old new names which h = file_rose (a_section (suc h.0)) old new h.1 which h.5

files_rose : (old new : FilesSeen) (files : JobFiles) (which : WhichFile) → AreUnread old new files (stop.ReadFault which) → Rose old.faults new.faults
files_rose old new (controller name) which h = file_rose a_controller old new name which h
files_rose old new (cascade name later) which (inl h) = file_rose a_controller old new name which h
files_rose old new (cascade name later) which (inr h) = later_rose old new later which h.2
files_rose old new (states name) which h = file_rose a_state_controller old new name which h
files_rose old new (plant_loop name plant) which (inl h) = file_rose a_controller old new name which h
files_rose old new (plant_loop name plant) which (inr h) = file_rose a_plant old new plant which h.2
files_rose old new (cascade_loop name later plant) which (inl h) = file_rose a_controller old new name which h
files_rose old new (cascade_loop name later plant) which (inr (inl h)) = later_rose old new later which h.2
files_rose old new (cascade_loop name later plant) which (inr (inr h)) = file_rose a_plant old new plant which h.4

evidence_rose : (old new : FilesSeen) (task : Task) (which : WhichFile) → IsEvidenceUnread old new task (stop.ReadFault which) → Rose old.faults new.faults
evidence_rose old new (checks_form name) which h = file_rose a_certificate old new name which h
evidence_rose old new (checks_ellipsoid name) which h = file_rose an_ellipsoid old new name which h
evidence_rose old new (runs_file name outputs) which h = file_rose some_inputs old new name which h
evidence_rose old new (emits_file_test prefix name) which h = file_rose some_inputs old new name which h
evidence_rose old new task which h = absurd h

-- words are no fault of a read
no_words_fault : (design : Design) (texts : JobTexts) (which : WhichFile) → AreWordless design texts (stop.ReadFault which) → ⊥
no_words_fault design (of_one c) which h = h
no_words_fault design (with_plant c p) which h = h
no_words_fault design (of_sections c cs) which h = h.2
no_words_fault design (sections_with_plant c cs p) which h = h.2
no_words_fault design (of_state_file c) which h = h

job_rose : (old new : FilesSeen) (files : JobFiles) (task : Task) (design : Design) (which : WhichFile) → IsJobRow old new files task design (Err (stop.ReadFault which)) → Rose old.faults new.faults
job_rose old new files task design which (inl h) = files_rose old new files which h
job_rose old new files task design which (inr (inl h)) = evidence_rose old new task which h.2
job_rose old new files task design which (inr (inr (inl h))) = absurd (no_words_fault design h.0 which h.4)
job_rose old new files task design which (inr (inr (inr h))) = absurd (no_task_fault task h.evidence h.texts h.words which h.done)

check_rose : (old new : FilesSeen) (files : JobFiles) (name : List ℕ) (which : WhichFile) → IsCheckOfRow old new files name (Err (stop.ReadFault which)) → Rose old.faults new.faults
check_rose old new files name which (inl h) = files_rose old new files which h
check_rose old new files name which (inr (inl h)) = file_rose a_certificate old new name which h.2
check_rose old new files name which (inr (inr h)) = absurd (no_check_fault h.texts h.written which h.check)

answer_rose : (old new : FilesSeen) (request : Request) (which : WhichFile) → IsAnswered old new (Some request) (Err (stop.ReadFault which)) → Rose old.faults new.faults
answer_rose old new (does job) which h = job_rose old new job.files job.task job.design which h
answer_rose old new (checks files name worded) which h = check_rose old new files name which h
answer_rose old new (generates seed count) which h = absurd h.0

pub all_decided : AreDecided
all_decided old new request k = decided old new (IsAnswered old new (Some request)) (answer_rose old new request)
