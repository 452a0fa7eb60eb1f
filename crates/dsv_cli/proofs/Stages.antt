-- The stages of a job lead to its row.
use Rattle.std.proofs.Common.{◌≡◌, ◌⊎◌, ◌≤◌, inl, inr, ℕ, List, [], refl}
use Rattle.std.specs.Prelude.{Bool, Ok, Err, IfOk, Option, Some}
use Rattle.dsv_base.specs.Seen.{FilesSeen, AreKept}
use Rattle.dsv_names.specs.declared.design.Design.{Design}
use Rattle.dsv_quantiser.specs.QuantisedView.{QuantisedView}
use Rattle.dsv_certfile.specs.declared.certificate.Certificate.{Certificate}
use Rattle.dsv_certfile.specs.declared.job.CertWords.{CertWords}
use Rattle.dsv_command.specs.Table.{Job, does, JobFiles, controller, cascade, states, plant_loop, cascade_loop, kind_of, Task, checks_form, checks_ellipsoid, runs_file, emits_file_test, generates}
use Rattle.dsv_command.specs.declared.kind.Kind.TheVariants as of_kind
use Rattle.dsv_template.specs.declared.candidate.Candidate.{Candidate}
use Rattle.dsv_template.specs.declared.shape.Shape.{Shape}
use Rattle.dsv_report.specs.declared.stop.Stop.{Stop}
use Rattle.dsv_report.specs.declared.stop.Stop.TheVariants as stop
use Rattle.dsv_report.specs.Stops.{Outcome}
use Rattle.dsv_cli.specs.JobRows.{IsDoneBy, IsOfCheck, IsCheckedBy, IsCheckOfRow, IsNothing, IsAnswered, AreLines}
use Rattle.dsv_cli.specs.declared.check.Passed.{Passed}
use Rattle.dsv_cli.specs.Told.{AreLinesOf, AreLinesOfCheck}
use Rattle.dsv_cli.specs.Words.{AreWordless, of_words}
use Rattle.dsv_files.specs.JobTexts.{JobTexts, of_one, of_sections, of_state_file, with_plant, sections_with_plant, HaveTexts, AreUnread, Evidence, none, certificate, ellipsoid, input_list, HasEvidence, IsEvidenceUnread, IsSaidOf}
use Rattle.dsv_cli.specs.Proposers.{AreSetsAsked}
use Rattle.dsv_cli.specs.Stages.{kind_in, IsAlone, IsDoneFor, IsRowFor, AreUnready, IsRowWith, IsSaidBeside, IsCheckBeside}
use Rattle.dsv_files.proofs.FileBytes.{file_earlier, text_earlier}
use Rattle.dsv_cli.proofs.Unasked.{sets_of_stop}
use Rattle.dsv_files.specs.Files.{a_certificate, an_ellipsoid, some_inputs, IsFileOf, IsUnread}

-- ---- evidence, from files that were read earlier
evidence_earlier : (old then : FilesSeen) (task : Task) (e : Evidence) → AreKept old then → HasEvidence then task e → HasEvidence old task e
evidence_earlier old then (checks_form name) (certificate c) k h = text_earlier a_certificate old then name c k h
evidence_earlier old then (checks_form name) e k h = absurd h
evidence_earlier old then (checks_ellipsoid name) (ellipsoid o) k h = text_earlier an_ellipsoid old then name o k h
evidence_earlier old then (checks_ellipsoid name) e k h = absurd h
evidence_earlier old then (runs_file name outputs) (input_list xs) k h = text_earlier some_inputs old then name xs k h
evidence_earlier old then (runs_file name outputs) e k h = absurd h
evidence_earlier old then (emits_file_test prefix name) (input_list xs) k h = text_earlier some_inputs old then name xs k h
evidence_earlier old then (emits_file_test prefix name) e k h = absurd h
evidence_earlier old then task none k h = tt
evidence_earlier old then task e k h = absurd h

evidence_unread_earlier : (old then new : FilesSeen) (task : Task) (why : Stop) → AreKept old then → old.came ≤ then.came → IsEvidenceUnread then new task why → IsEvidenceUnread old new task why
evidence_unread_earlier old then new (checks_form name) why k l h = file_earlier a_certificate old then new name why k l h
evidence_unread_earlier old then new (checks_ellipsoid name) why k l h = file_earlier an_ellipsoid old then new name why k l h
evidence_unread_earlier old then new (runs_file name outputs) why k l h = file_earlier some_inputs old then new name why k l h
evidence_unread_earlier old then new (emits_file_test prefix name) why k l h = file_earlier some_inputs old then new name why k l h
evidence_unread_earlier old then new task why k l h = absurd h

-- ---- from the texts on
pub lacks_evidence : (old new : FilesSeen) (came : JobTexts) (task : Task) (design : Design) (why : Stop) → IsEvidenceUnread old new task why → AreUnready old new came task design why
lacks_evidence old new came task design stop.NoMemory h = tt
lacks_evidence old new came task design why h = inl h

pub lacks_words : (old new : FilesSeen) (came : JobTexts) (task : Task) (design : Design) (e : Evidence) (why : Stop) → HasEvidence old task e → AreWordless design came why → AreUnready old new came task design why
lacks_words old new came task design e stop.NoMemory n h = tt
lacks_words old new came task design e why n h = inr (e, n, h)

pub unready : (old new : FilesSeen) (came : JobTexts) (task : Task) (design : Design) (why : Stop) → AreUnready old new came task design why → IsRowFor old new came task design (Err why)
unready old new came task design stop.NoMemory h = tt
unready old new came task design why (inl h) = inl h
unready old new came task design why (inr h) = inr (inl h)

task_done : (old new : FilesSeen) (came : JobTexts) (task : Task) (design : Design) (found : Outcome) → IsDoneFor old came task design found → IsRowFor old new came task design found
task_done old new came task design (Ok found) d = d
task_done old new came task design (Err stop.NoMemory) d = tt
task_done old new came task design (Err why) d = inr (inr d)

abbrev done_earlier : (old then : FilesSeen) (came : JobTexts) (task : Task) (design : Design) (found : Outcome) → AreKept old then → IsDoneFor then came task design found → IsDoneFor old came task design found
done_earlier old then came task design found k d = (d.0, evidence_earlier old then task d.0 k d.1, d.2, d.3, d.4)

-- the proposers were asked for the words of what is done
pub row_with : {B P : Type 0} (place : B → P) (last : B → Option Candidate) (to_come : B → Shape → Option (List Candidate)) (before after : List B) (old new : FilesSeen) (came : JobTexts) (task : Task) (design : Design) (found : Outcome) (d : IsDoneFor old came task design found)
    → AreSetsAsked place last to_come (λ q. d.2 ≡ of_words q) before after found → IsRowWith old new came task design found (λ becomes. AreSetsAsked place last to_come becomes before after found)
row_with place last to_come before after old new came task design (Ok found) d h = (d, h)
row_with place last to_come before after old new came task design (Err why) d h = (task_done old new came task design (Err why) d, sets_of_stop place last to_come (λ q. d.2 ≡ of_words q) (λ q. ⊥) before after why h)

-- ---- from the files on
abbrev done_by : (old : FilesSeen) (files : JobFiles) (came : JobTexts) (task : Task) (design : Design) (found : Outcome) → HaveTexts old files came → IsDoneFor old came task design found → IsDoneBy old files task design found
done_by old files came task design found t d = record { texts = came; have_texts = t; evidence = d.0; has_evidence = d.1; words = d.2; become_words = d.3; done = d.4 }

-- a file isn't what it has to be
pub unread_beside : (old new : FilesSeen) (job : Job) (why : Stop) (many : ℕ) (said : CertWords) (lines : List ℕ) (AreAsked : (QuantisedView → Type 0) → Type 0) → AreUnread old new job.files why → IsNothing many said → AreAsked (λ q. ⊥)
    → IsSaidBeside old new (Some (does job)) (Err why) many said lines AreAsked
unread_beside old new job stop.NoMemory many said lines AreAsked h n a = (tt, inr n, tt, a)
unread_beside old new job why many said lines AreAsked h n a = (inl h, n, tt, a)

-- they are, and were read before the rest
stopped_beside : (old then new : FilesSeen) (job : Job) (came : JobTexts) (many : ℕ) (said : CertWords) (lines : List ℕ) (AreAsked : (QuantisedView → Type 0) → Type 0) (why : Stop) → HaveTexts old job.files came → AreKept old then → old.came ≤ then.came → IsSaidOf came many said
    → IsEvidenceUnread then new job.task why ⊎ (((e : Evidence) × HasEvidence then job.task e × AreWordless job.design came why) ⊎ IsDoneFor then came job.task job.design (Err why)) → AreAsked (λ q. ⊥)
    → IsSaidBeside old new (Some (does job)) (Err why) many said lines AreAsked
stopped_beside old then new job came many said lines AreAsked stop.NoMemory t k l s h a = (tt, inl (came, t, s), tt, a)
stopped_beside old then new job came many said lines AreAsked why t k l s (inl h) a = (inr (inl (came, t, evidence_unread_earlier old then new job.task why k l h)), s, tt, a)
stopped_beside old then new job came many said lines AreAsked why t k l s (inr (inl (e, n, h))) a = (inr (inr (inl (came, e, t, evidence_earlier old then job.task e k n, h))), s, tt, a)
stopped_beside old then new job came many said lines AreAsked why t k l s (inr (inr d)) a = (inr (inr (inr (done_by old job.files came job.task job.design (Err why) t (done_earlier old then came job.task job.design (Err why) k d)))), s, tt, a)

pub texts_beside : (old then new : FilesSeen) (job : Job) (came : JobTexts) (found : Outcome) (many : ℕ) (said : CertWords) (lines : List ℕ) (AreAsked : (QuantisedView → Type 0) → Type 0) → HaveTexts old job.files came → AreKept old then → old.came ≤ then.came
    → IsSaidOf came many said → IfOk found (λ x. AreLinesOf old job came lines) → IsRowWith then new came job.task job.design found AreAsked → IsSaidBeside old new (Some (does job)) found many said lines AreAsked
texts_beside old then new job came (Ok found) many said lines AreAsked t k l s told (d, a) = (done_by old job.files came job.task job.design (Ok found) t (done_earlier old then came job.task job.design (Ok found) k d), s, told, a)
texts_beside old then new job came (Err stop.NoMemory) many said lines AreAsked t k l s told (h, a) = (tt, inl (came, t, s), tt, a)
texts_beside old then new job came (Err why) many said lines AreAsked t k l s told (h, a) = stopped_beside old then new job came many said lines AreAsked why t k l s h a

-- ---- kinds
pub kind_of_texts : (old : FilesSeen) (files : JobFiles) (came : JobTexts) → HaveTexts old files came → kind_of files ≡ kind_in came
kind_of_texts old (controller name) (of_one c) h = refl
kind_of_texts old (controller name) came h = absurd h
kind_of_texts old (cascade name later) (of_sections c cs) h = refl
kind_of_texts old (cascade name later) came h = absurd h
kind_of_texts old (states name) (of_state_file c) h = refl
kind_of_texts old (states name) came h = absurd h
kind_of_texts old (plant_loop name plant) (with_plant c p) h = refl
kind_of_texts old (plant_loop name plant) came h = absurd h
kind_of_texts old (cascade_loop name later plant) (sections_with_plant c cs p) h = refl
kind_of_texts old (cascade_loop name later plant) came h = absurd h

-- what is a controller alone is of that kind
pub alone_kind : (old : FilesSeen) (files : JobFiles) (came : JobTexts) → HaveTexts old files came → IsAlone came → kind_of files ≡ of_kind.Controller
alone_kind old files (of_one c) h a = kind_of_texts old files (of_one c) h
alone_kind old files came h a = absurd a

-- ---- checks
pub no_checked_texts : (old new : FilesSeen) (files : JobFiles) (name : List ℕ) (why : Stop) → AreUnread old new files why → IsCheckOfRow old new files name (Err why)
no_checked_texts old new files name stop.NoMemory h = tt
no_checked_texts old new files name why h = inl h

pub no_certificate : (old then new : FilesSeen) (files : JobFiles) (came : JobTexts) (name : List ℕ) (why : Stop) → HaveTexts old files came → AreKept old then → old.came ≤ then.came → IsUnread a_certificate then new name why
    → IsCheckOfRow old new files name (Err why)
no_certificate old then new files came name why t k l h = refused old new files came name why t (file_earlier a_certificate old then new name why k l h)
  where
    refused : (old new : FilesSeen) (files : JobFiles) (came : JobTexts) (name : List ℕ) (why : Stop) → HaveTexts old files came → IsUnread a_certificate old new name why → IsCheckOfRow old new files name (Err why)
    refused old new files came name stop.NoMemory t h = tt
    refused old new files came name why t h = inr (inl (came, t, h))

pub passed_beside : (old then new : FilesSeen) (files : JobFiles) (came : JobTexts) (name : List ℕ) (c : Certificate) (worded : Bool) (found : Passed) → HaveTexts old files came → AreKept old then → IsFileOf a_certificate then name c
    → IsOfCheck came c (Ok found.answer) → AreLinesOfCheck old files name worded came c found.lines → IsCheckBeside old new files name worded (Ok found)
passed_beside old then new files came name c worded found t k s h told = (record { texts = came; have_texts = t; written = c; spelled = text_earlier a_certificate old then name c k s; check = h }, told)

pub row_of_refusal : (old then new : FilesSeen) (files : JobFiles) (came : JobTexts) (name : List ℕ) (c : Certificate) (why : Stop) → HaveTexts old files came → AreKept old then → IsFileOf a_certificate then name c → IsOfCheck came c (Err why)
    → IsCheckOfRow old new files name (Err why)
row_of_refusal old then new files came name c why t k s h = refused old new files name why (record { texts = came; have_texts = t; written = c; spelled = text_earlier a_certificate old then name c k s; check = h })
  where
    refused : (old new : FilesSeen) (files : JobFiles) (name : List ℕ) (why : Stop) → IsCheckedBy old files name (Err why) → IsCheckOfRow old new files name (Err why)
    refused old new files name stop.NoMemory h = tt
    refused old new files name why h = inr (inr h)

-- ---- tallies
pub tally_lines : (old new : FilesSeen) (seed count : ℕ) (found : Outcome) (row : IsAnswered old new (Some (generates seed count)) found) (lines : List ℕ) → lines ≡ [] → AreLines old new (Some (generates seed count)) found row lines
tally_lines old new seed count (Ok found) row lines e = e
tally_lines old new seed count (Err why) row lines e = tt
