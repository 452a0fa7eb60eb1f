-- What a run answers to a job, stage by stage: its files in their order, the evidence that the task
-- names, the words, and at last the task.
use mathlib.Core.Logic.{inl, inr}
use Rattle.std.specs.Prelude.{◌≡◌, ◌⊎◌, ℕ, Bool, List, [], ◌∷◌, true, false, Ok, Err}
use Rattle.std.specs.Prelude.{Option, Some, None}
use Rattle.dsv_base.specs.Seen.{FilesSeen}
use Rattle.dsv_names.specs.declared.design.Design.{Design}
use Rattle.dsv_names.specs.declared.property.RootProperty.TheVariants.{Stability}
use Rattle.dsv_reader.specs.Controllers.{ControllerView}
use Rattle.dsv_reader.specs.Plants.{PlantView}
use Rattle.dsv_quantiser.specs.QuantisedView.{QuantisedView}
use Rattle.dsv_realise.specs.Controllers.{of_controller}
use Rattle.dsv_realise.specs.SubjectView.{SubjectView}
use Rattle.dsv_cascade.specs.Cascades.{CascadeView, sections_of}
use Rattle.dsv_cascade.specs.Subjects.{of_cascade}
use Rattle.dsv_cascade.specs.Stability.{AreJudged}
use Rattle.dsv_poly_table.specs.Sections.{AreTabled}
use Rattle.dsv_state_space.specs.Subjects.{of_states}
use Rattle.dsv_loop.specs.Loops.{loop_of}
use Rattle.dsv_certcheck.specs.Found.{IsChecked}
use Rattle.dsv_certcheck.specs.Shown.{IsShownOf, IsNearOf}
use Rattle.dsv_certcheck.specs.declared.check_refusal.CheckRefusal.{CheckRefusal}
use Rattle.dsv_certfile.specs.Texts.{job_of}
use Rattle.dsv_certfile.specs.declared.certificate.Certificate.{Certificate}
use Rattle.dsv_certfile.specs.declared.job.CertWords.{CertWords}
use Rattle.dsv_certfile.specs.declared.job.CertWords.TheVariants as words
use Rattle.dsv_command.specs.Table.{JobFiles}
use Rattle.dsv_command.specs.Table.{Task, decides, checks_time, writes, searches}
use Rattle.dsv_command.specs.Table.{seeks_set, measures_gain, simulates, checks_form, seeks_form}
use Rattle.dsv_command.specs.Table.{checks_ellipsoid, seeks_ellipsoid, Request, does, checks}
use Rattle.dsv_command.specs.Table.{generates, runs_file, tells_words}
use Rattle.dsv_command.specs.Table.{emits_code, emits_test, emits_file_test}
use Rattle.dsv_report.specs.declared.answers.Answer.TheVariants as answer
use Rattle.dsv_report.specs.declared.answers.OutputError.{OutputError}
use Rattle.dsv_report.specs.declared.stop.Stop.{Stop}
use Rattle.dsv_report.specs.declared.stop.Stop.TheVariants as stop
use Rattle.dsv_report.specs.Stops.{Outcome}
use Rattle.dsv_cli.specs.Causes.{IsOfProperty, IsOfSets, IsOfTiming}
use Rattle.dsv_cli.specs.Checking.{stop_of_check}
use Rattle.dsv_cli.specs.Emitting.{members_of, origin_of, IsOfCode, IsOfCodeTest}
use Rattle.dsv_cli.specs.Ellipsoids.{IsOfOffer, IsOfSoughtEllipsoid}
use Rattle.dsv_cli.specs.Gain.{IsErrorOf, IsNotSought, IsOfGain}
use Rattle.dsv_cli.specs.Causes.{IsOfGeneration}
use Rattle.dsv_cli.specs.Loops.{IsOfLoop, HasFewCoefficients}
use Rattle.dsv_cli.specs.Searching.{IsOfFormula, IsOfSearch}
use Rattle.dsv_cli.specs.Simulating.{IsOfRun}
use Rattle.dsv_cli.specs.States.{IsOfSoughtForm, IsOfStateTable}
use Rattle.dsv_cli.specs.States.{IsOfForm}
use Rattle.dsv_cli.specs.Told.{AreLinesOf, AreLinesOfCheck}
use Rattle.dsv_cli.specs.Words.{JobWords, of_words, of_series, of_state_words}
use Rattle.dsv_cli.specs.Words.{BecomeJobWords, AreWordless}
use Rattle.dsv_files.specs.Files.{a_certificate, IsFileOf, IsUnread}
use Rattle.dsv_files.specs.JobTexts.{JobTexts, of_one, of_sections, of_state_file, with_plant}
use Rattle.dsv_files.specs.JobTexts.{sections_with_plant, HaveTexts, AreUnread, Evidence}
use Rattle.dsv_files.specs.JobTexts.{certificate, ellipsoid, input_list, HasEvidence}
use Rattle.dsv_files.specs.JobTexts.{IsEvidenceUnread}
use Rattle.dsv_files.specs.JobTexts.{IsSaidOf}

-- ---- the task
-- what runs in words
abbrev pub subject_of : JobWords → SubjectView
subject_of (of_words q) = of_controller q
subject_of (of_series s) = of_cascade s
subject_of (of_state_words s) = of_states s

-- what is said of how far outputs are from those of exact runs: of controllers alone
abbrev pub ErrorIs : JobWords → OutputError → Type 0
ErrorIs (of_words q) error = IsErrorOf q error
ErrorIs other error = IsNotSought error

-- the closed forms or the tables of a cascade's sections
abbrev pub IsOfSections : Bool → CascadeView → Outcome → Type 0
IsOfSections false s (Ok (answer.OfSections found)) = AreJudged (sections_of s) found
IsOfSections true s (Ok (answer.OfSectionTables found)) = AreTabled (sections_of s) found
IsOfSections schur_cohn s (Err stop.NoMemory) = Unit {0}
IsOfSections schur_cohn s other = ⊥

-- what a task comes to, by what it is asked about; nothing else is asked
abbrev pub IsTaskDone : Task → Evidence → JobTexts → JobWords → Outcome → Type 0
IsTaskDone (searches property samples conflicts) evidence texts words found =
    IsOfSearch property samples conflicts (subject_of words) found
IsTaskDone measures_gain evidence texts words found =
    IsOfGain (ErrorIs words) (subject_of words) found
IsTaskDone (simulates xs outputs) evidence texts words found =
    IsOfRun (subject_of words) xs outputs found
IsTaskDone (runs_file name outputs) (input_list xs) texts words found =
    IsOfRun (subject_of words) xs outputs found
IsTaskDone tells_words evidence texts words found = found ≡ Ok answer.Words
IsTaskDone (emits_code prefix) evidence texts words found =
    IsOfCode (subject_of words) prefix (members_of words) (origin_of words) found
IsTaskDone (emits_test prefix xs) evidence texts words found =
    IsOfCodeTest (subject_of words) prefix (members_of words) (origin_of words) xs found
IsTaskDone (emits_file_test prefix name) (input_list xs) texts words found =
    IsOfCodeTest (subject_of words) prefix (members_of words) (origin_of words) xs found
IsTaskDone (decides property schur_cohn) evidence (of_one c) (of_words q) found =
    IsOfProperty property schur_cohn q found
IsTaskDone (decides Stability schur_cohn) evidence (of_sections c cs) (of_series s) found =
    IsOfSections schur_cohn s found
IsTaskDone (decides Stability true) evidence (of_state_file c) (of_state_words s) found =
    IsOfStateTable s found
IsTaskDone (decides Stability schur_cohn) evidence (with_plant c p) (of_words q) found =
    IsOfLoop (loop_of (q ∷ []) c.sample_time p) found × HasFewCoefficients found
IsTaskDone (decides Stability schur_cohn) evidence (sections_with_plant c cs p) (of_series s) found
    = IsOfLoop (loop_of (sections_of s) c.sample_time p) found
IsTaskDone checks_time evidence (of_one c) (of_words q) found = IsOfTiming c q found
IsTaskDone (writes property samples) evidence (of_one c) (of_words q) found =
    IsOfFormula property samples (of_controller q) found
IsTaskDone (seeks_set conflicts) evidence (of_one c) (of_words q) found = IsOfSets conflicts q found
IsTaskDone (checks_ellipsoid name) (ellipsoid offer) (of_one c) (of_words q) found =
    IsOfOffer offer q found
IsTaskDone seeks_ellipsoid evidence (of_one c) (of_words q) found = IsOfSoughtEllipsoid q found
IsTaskDone (checks_form name) (certificate form) (of_state_file c) (of_state_words s) found =
    IsOfForm s form found
IsTaskDone seeks_form evidence (of_state_file c) (of_state_words s) found = IsOfSoughtForm s found
IsTaskDone task evidence texts words found = ⊥

-- ---- the row
-- The files have these texts, the task's evidence is this, and they become these words, for which
-- the task comes to this.
pub record IsDoneBy (old : FilesSeen) (files : JobFiles) (task : Task) (design : Design)
    (found : Outcome) : Type 0 where
  pub texts : JobTexts
  pub have_texts : HaveTexts old files texts
  pub evidence : Evidence
  pub has_evidence : HasEvidence old task evidence
  pub words : JobWords
  pub become_words : BecomeJobWords design texts words
  pub done : IsTaskDone task evidence texts words found

-- the files have texts, and the task's evidence is none
abbrev pub LacksEvidence : FilesSeen → FilesSeen → JobFiles → Task → Stop → Type 0
LacksEvidence old new files task why = (texts : JobTexts) × HaveTexts old files texts
    × IsEvidenceUnread old new task why

-- and has it, but they become no words
abbrev pub LacksWords : FilesSeen → JobFiles → Task → Design → Stop → Type 0
LacksWords old files task design why = (texts : JobTexts) × (evidence : Evidence)
    × HaveTexts old files texts × HasEvidence old task evidence × AreWordless design texts why

-- The row of each answer to a job, where the files were `old` and are `new`. Only NoMemory has no
-- stated cause.
abbrev pub IsJobRow : FilesSeen → FilesSeen → JobFiles → Task → Design → Outcome → Type 0
IsJobRow old new files task design (Ok found) = IsDoneBy old files task design (Ok found)
IsJobRow old new files task design (Err stop.NoMemory) = Unit {0}
IsJobRow old new files task design (Err why) = AreUnread old new files why
    ⊎ (LacksEvidence old new files task why
    ⊎ (LacksWords old files task design why ⊎ IsDoneBy old files task design (Err why)))

-- ---- checks of certificates
-- what the check of a certificate comes to, of a controller and of a plant if there is one
abbrev pub ChecksTo : ControllerView → Option PlantView → Certificate → Outcome → Type 0
ChecksTo c plant written (Ok (answer.Checked certified error)) = (certified ≡ job_of written)
    × IsChecked c plant written (Ok tt) × IsShownOf c plant certified × IsNearOf c written error
ChecksTo c plant written (Err why) =
    (r : CheckRefusal) × IsChecked c plant written (Err r) × (why ≡ stop_of_check r)
ChecksTo c plant written found = ⊥

-- the same for what the files have
abbrev pub IsOfCheck : JobTexts → Certificate → Outcome → Type 0
IsOfCheck (of_one c) written found = ChecksTo c None written found
IsOfCheck (with_plant c p) written found = ChecksTo c (Some p) written found
IsOfCheck texts written found = ⊥

-- The files have these texts, the certificate's file spells this, and its check comes to this.
pub record IsCheckedBy (old : FilesSeen) (files : JobFiles) (name : List ℕ) (found : Outcome)
    : Type 0 where
  pub texts : JobTexts
  pub have_texts : HaveTexts old files texts
  pub written : Certificate
  pub spelled : IsFileOf a_certificate old name written
  pub check : IsOfCheck texts written found

-- The row of each answer to the check of the certificate in the file of this name, where the files
-- were `old` and are `new`. Only NoMemory has no stated cause.
abbrev pub IsCheckOfRow : FilesSeen → FilesSeen → JobFiles → List ℕ → Outcome → Type 0
IsCheckOfRow old new files name (Ok found) = IsCheckedBy old files name (Ok found)
IsCheckOfRow old new files name (Err stop.NoMemory) = Unit {0}
IsCheckOfRow old new files name (Err why) = AreUnread old new files why
    ⊎ (((texts : JobTexts) × HaveTexts old files texts × IsUnread a_certificate old new name why)
    ⊎ IsCheckedBy old files name (Err why))

-- ---- all requests
-- Arguments that ask for nothing come to Usage, a job or a check to what has its row, and generated
-- controllers are answered by their tally, with the files untouched. Only NoMemory has no stated
-- cause.
abbrev pub IsAnswered : FilesSeen → FilesSeen → Option Request → Outcome → Type 0
IsAnswered old new None found =
    (found ≡ Err stop.NoMemory) ⊎ ((found ≡ Err stop.Usage) × (new ≡ old))
IsAnswered old new (Some (does job)) found =
    IsJobRow old new job.files job.task job.design found
IsAnswered old new (Some (checks files name worded)) found =
    IsCheckOfRow old new files name found
IsAnswered old new (Some (generates seed count)) found =
    IsOfGeneration seed count found × (new ≡ old)

-- ---- what is said beside the row
-- nothing is said
abbrev pub IsNothing : ℕ → CertWords → Type 0
IsNothing many said = (many ≡ 0) × (said ≡ words.Unsaid)

-- What is said beside the row of a job: what the texts of the row have, and nothing if one of the
-- files isn't what it has to be. Want of memory has no texts in its row: it may come before them or
-- after.
abbrev pub IsSaidBy : (old new : FilesSeen) (files : JobFiles) (task : Task) (design : Design)
    (found : Outcome) → IsJobRow old new files task design found → ℕ → CertWords → Type 0
IsSaidBy old new files task design (Ok found) row many said = IsSaidOf row.texts many said
IsSaidBy old new files task design (Err stop.NoMemory) row many said =
    ((texts : JobTexts) × HaveTexts old files texts × IsSaidOf texts many said)
    ⊎ IsNothing many said
IsSaidBy old new files task design (Err why) (inl unread) many said = IsNothing many said
IsSaidBy old new files task design (Err why) (inr (inl lacks)) many said =
    IsSaidOf lacks.0 many said
IsSaidBy old new files task design (Err why) (inr (inr (inl wordless))) many said =
    IsSaidOf wordless.0 many said
IsSaidBy old new files task design (Err why) (inr (inr (inr done))) many said =
    IsSaidOf done.texts many said

-- How many states a run says that its controller has, and what its certificate says of the words,
-- beside the row of its answer: nothing of what is no job.
abbrev pub IsSaid : (old new : FilesSeen) (request : Option Request) (found : Outcome)
    → IsAnswered old new request found → ℕ → CertWords → Type 0
IsSaid old new (Some (does job)) found row many said =
    IsSaidBy old new job.files job.task job.design found row many said
IsSaid old new other found row many said = IsNothing many said

-- The lines that tell words in the report of an answer, beside its row: those of the texts of the
-- row if the request asks for them, and else none. A refusal has no report.
abbrev pub AreLines : (old new : FilesSeen) (request : Option Request) (found : Outcome)
    → IsAnswered old new request found → List ℕ → Type 0
AreLines old new (Some (does job)) (Ok found) row lines = AreLinesOf old job row.texts lines
AreLines old new (Some (checks files name worded)) (Ok found) row lines =
    AreLinesOfCheck old files name worded row.texts row.written lines
AreLines old new request (Ok found) row lines = lines ≡ []
AreLines old new request (Err why) row lines = Unit {0}

-- these are the words in the row of an answer to a job, those of one controller
abbrev pub AreInRow : (old new : FilesSeen) (request : Option Request) (found : Outcome)
    → IsAnswered old new request found → QuantisedView → Type 0
AreInRow old new (Some (does job)) (Ok found) row = λ q. row.words ≡ of_words q
AreInRow old new other found row = λ q. ⊥
