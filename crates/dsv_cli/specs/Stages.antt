-- For private contracts: what the stages of a job give, as the table has it.
use Rattle.std.specs.Prelude.{◌≡◌, ◌⊎◌, ℕ, Bool, List, Option, Result, Ok, Err}
use Rattle.dsv_base.specs.Seen.{FilesSeen}
use Rattle.dsv_names.specs.declared.design.Design.{Design}
use Rattle.dsv_quantiser.specs.QuantisedView.{QuantisedView}
use Rattle.dsv_certfile.specs.declared.job.CertWords.{CertWords}
use Rattle.dsv_command.specs.Table.{JobFiles, Request, Task, decides, seeks_set, tells_words}
use Rattle.dsv_command.specs.Table.{emits_code, emits_test, emits_file_test}
use Rattle.dsv_command.specs.declared.kind.Kind.{Kind}
use Rattle.dsv_command.specs.declared.kind.Kind.TheVariants as of_kind
use Rattle.dsv_report.specs.declared.stop.Stop.{Stop}
use Rattle.dsv_report.specs.declared.stop.Stop.TheVariants as stop
use Rattle.dsv_report.specs.Stops.{Outcome}
use Rattle.dsv_files.specs.JobTexts as rows
use Rattle.dsv_files.specs.JobTexts.{JobTexts, of_one, of_sections, of_state_file, with_plant}
use Rattle.dsv_files.specs.JobTexts.{sections_with_plant, HasEvidence, IsEvidenceUnread}
use Rattle.dsv_cli.specs.declared.check.Passed.{Passed}
use Rattle.dsv_cli.specs.JobRows.{IsTaskDone, IsAnswered, IsSaid, AreInRow, AreLines}
use Rattle.dsv_cli.specs.JobRows.{IsCheckedBy, IsCheckOfRow}
use Rattle.dsv_cli.specs.Told.{AreLinesOfCheck}
use Rattle.dsv_cli.specs.Words.{JobWords, of_words, of_series, of_state_words}
use Rattle.dsv_cli.specs.Words.{BecomeJobWords, AreWordless}
use Rattle.dsv_cli.specs.declared.in_words.InWords.{InWords}
use Rattle.dsv_cli.specs.declared.in_words.InWords.TheVariants as in_words

-- ---- what came of files
-- ---- in words
abbrev pub texts_in : InWords → JobTexts
texts_in (in_words.Controller c q) = of_one c.now
texts_in (in_words.Cascade s found) = of_sections s.now.first s.now.later.items
texts_in (in_words.States c found) = of_state_file c.now
texts_in (in_words.Loop c p q) = with_plant c.now p.now
texts_in (in_words.CascadeLoop s p found) =
    sections_with_plant s.now.first s.now.later.items p.now

abbrev pub words_in : InWords → JobWords
words_in (in_words.Controller c q) = of_words q
words_in (in_words.Cascade s found) = of_series found
words_in (in_words.States c found) = of_state_words found
words_in (in_words.Loop c p q) = of_words q
words_in (in_words.CascadeLoop s p found) = of_series found

abbrev pub kind_in : JobTexts → Kind
kind_in (of_one c) = of_kind.Controller
kind_in (of_sections c cs) = of_kind.Cascade
kind_in (of_state_file c) = of_kind.States
kind_in (with_plant c p) = of_kind.Loop
kind_in (sections_with_plant c cs p) = of_kind.CascadeLoop

-- ---- from the texts on
-- the evidence is there, and the texts become words for which the task comes to this
abbrev pub IsDoneFor : FilesSeen → JobTexts → Task → Design → Outcome → Type 0
IsDoneFor old came task design found = (evidence : rows.Evidence) × HasEvidence old task evidence
    × (words : JobWords) × BecomeJobWords design came words
    × IsTaskDone task evidence came words found

-- the row of a job whose files have these texts
abbrev pub IsRowFor : FilesSeen → FilesSeen → JobTexts → Task → Design → Outcome → Type 0
IsRowFor old new came task design (Ok found) = IsDoneFor old came task design (Ok found)
IsRowFor old new came task design (Err stop.NoMemory) = Unit {0}
IsRowFor old new came task design (Err why) = IsEvidenceUnread old new task why
    ⊎ (((evidence : rows.Evidence) × HasEvidence old task evidence × AreWordless design came why)
    ⊎ IsDoneFor old came task design (Err why))

-- why there is neither evidence nor words for texts
abbrev pub AreUnready : FilesSeen → FilesSeen → JobTexts → Task → Design → Stop → Type 0
AreUnready old new came task design stop.NoMemory = Unit {0}
AreUnready old new came task design why = IsEvidenceUnread old new task why
    ⊎ ((evidence : rows.Evidence) × HasEvidence old task evidence × AreWordless design came why)

-- these are the words in that row, those of one controller
abbrev pub AreInRowFor : (old new : FilesSeen) (came : JobTexts) (task : Task) (design : Design)
    (found : Outcome) → IsRowFor old new came task design found → QuantisedView → Type 0
AreInRowFor old new came task design (Ok found) row = λ q. row.2 ≡ of_words q
AreInRowFor old new came task design (Err why) row = λ q. ⊥

-- the row, with what is said of proposers for its words
abbrev pub IsRowWith : FilesSeen → FilesSeen → JobTexts → Task → Design → Outcome
    → ((QuantisedView → Type 0) → Type 0) → Type 0
IsRowWith old new came task design found AreAsked = (row : IsRowFor old new came task design found)
    × AreAsked (AreInRowFor old new came task design found row)

-- ---- proposers
-- the task is done without any, and asks more than what the words are
abbrev pub NeedsNoProposer : Task → Type 0
NeedsNoProposer (decides property schur_cohn) = ⊥
NeedsNoProposer (seeks_set conflicts) = ⊥
NeedsNoProposer tells_words = ⊥
NeedsNoProposer (emits_code prefix) = ⊥
NeedsNoProposer (emits_test prefix inputs) = ⊥
NeedsNoProposer (emits_file_test prefix name) = ⊥
NeedsNoProposer other = Unit {0}

-- the task asks more than what the words are, and for no C
abbrev pub AsksMore : Task → Type 0
AsksMore tells_words = ⊥
AsksMore (emits_code prefix) = ⊥
AsksMore (emits_test prefix inputs) = ⊥
AsksMore (emits_file_test prefix name) = ⊥
AsksMore other = Unit {0}

-- it is a controller alone
abbrev pub IsAlone : JobTexts → Type 0
IsAlone (of_one c) = Unit {0}
IsAlone other = ⊥

abbrev pub IsNoController : InWords → Type 0
IsNoController subject = IsAlone (texts_in subject) → ⊥

-- ---- the row, with what is said beside it, and of proposers for its words
abbrev pub IsSaidBeside : FilesSeen → FilesSeen → Option Request → Outcome → ℕ → CertWords
    → List ℕ → ((QuantisedView → Type 0) → Type 0) → Type 0
IsSaidBeside old new request found many said lines AreAsked =
    (row : IsAnswered old new request found) × IsSaid old new request found row many said
    × AreLines old new request found row lines × AreAsked (AreInRow old new request found row)

-- ---- the row of a check, with what its report tells
abbrev pub IsCheckBeside : FilesSeen → FilesSeen → JobFiles → List ℕ → Bool → Result Passed Stop
    → Type 0
IsCheckBeside old new files name worded (Ok found) =
    (row : IsCheckedBy old files name (Ok found.answer))
    × AreLinesOfCheck old files name worded row.texts row.written found.lines
IsCheckBeside old new files name worded (Err why) = IsCheckOfRow old new files name (Err why)
