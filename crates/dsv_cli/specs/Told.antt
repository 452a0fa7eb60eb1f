-- The lines at the head of a text: those that tell what a report is about, the files by their
-- digests, the words, and what timing takes of a file; and before C the name of the controller.
use Rattle.std.specs.Prelude.{◌≡◌, ℕ, Bool, MatchBool, List, [], ◌∷◌, ◌++◌, codes}
use Rattle.std.specs.List.{flat_map}
use Rattle.dsv_base.specs.Seen.{FilesSeen}
use Rattle.dsv_names.specs.declared.design.Design.{Design}
use Rattle.dsv_certfile.specs.Texts.{job_of}
use Rattle.dsv_certfile.specs.declared.certificate.Certificate.{Certificate}
use Rattle.dsv_command.specs.Table.{JobFiles, Task, checks_time, Job, tells_words}
use Rattle.dsv_command.specs.Table.{emits_code, emits_test, emits_file_test}
use Rattle.dsv_files.specs.declared.digests.FileDigest.{FileDigest}
use Rattle.dsv_files.specs.Digests.{DigestView, AreDigests, NamedFile, named_by, named_by_task}
use Rattle.dsv_files.specs.Digests.{certificate_named, digest_view}
use Rattle.dsv_files.specs.JobTexts.{JobTexts, of_one, of_sections, of_state_file, with_plant}
use Rattle.dsv_files.specs.JobTexts.{sections_with_plant}
use Rattle.dsv_word_lines.specs.CostLines.{cost_line}
use Rattle.dsv_word_lines.specs.Digests.{digest_line}
use Rattle.dsv_word_lines.specs.WordLines.{controller_lines, cascade_lines, state_lines}
use Rattle.dsv_cli.specs.Words.{JobWords, of_words, of_series, of_state_words, BecomeJobWords}

-- ---- the lines
abbrev pub digest_text : DigestView → List ℕ
digest_text d = digest_line d.digest d.name

abbrev pub file_line : FileDigest → List ℕ
file_line d = digest_text (digest_view d)

-- the words that texts became
abbrev pub word_lines : JobTexts → JobWords → List ℕ
word_lines (of_one c) (of_words q) = controller_lines c q
word_lines (with_plant c p) (of_words q) = controller_lines c q
word_lines (of_sections c cs) (of_series s) = cascade_lines c s
word_lines (sections_with_plant c cs p) (of_series s) = cascade_lines c s
word_lines (of_state_file c) (of_state_words s) = state_lines c s
word_lines texts words = []

-- the costs that timing takes of the controller's file
abbrev pub timing_line : Task → JobTexts → List ℕ
timing_line checks_time (of_one c) = cost_line c.costs
timing_line task texts = []

-- the digests, the words, and what timing takes of the file, one after another
abbrev pub told_by : List DigestView → JobTexts → JobWords → Task → List ℕ
told_by digests texts words task =
    flat_map digest_text digests ++ (word_lines texts words ++ timing_line task texts)

-- ---- the name
-- a comment of C that says it
abbrev pub name_comment : List ℕ → List ℕ
name_comment name = codes "/* " ++ (name ++ (codes " */" ++ 10 ∷ []))

-- if there is one
abbrev pub title_comment : List ℕ → List ℕ
title_comment [] = []
title_comment (c ∷ cs) = name_comment (c ∷ cs)

-- the name in the first file
abbrev pub first_title : List DigestView → List ℕ
first_title [] = []
first_title (d ∷ ds) = title_comment d.title

-- before C; other texts have none
abbrev pub titled_by : List DigestView → Task → List ℕ
titled_by digests (emits_code prefix) = first_title digests
titled_by digests (emits_test prefix inputs) = first_title digests
titled_by digests (emits_file_test prefix name) = first_title digests
titled_by digests other = []

-- ---- what is told
-- These lines tell the digests of these files, in their order, the words that these texts become in
-- a design, and what a task takes of them beside that.
pub record TellsWords (old : FilesSeen) (files : List NamedFile) (task : Task) (design : Design)
    (texts : JobTexts) (lines : List ℕ) : Type 0 where
  pub digests : List DigestView
  pub are_digests : AreDigests old files digests
  pub words : JobWords
  pub become_words : BecomeJobWords design texts words
  pub same : lines ≡ told_by digests texts words task

-- these lines tell what one of these files calls the controller, if the task is one of C, and else
-- nothing
pub record TellsTitle (old : FilesSeen) (files : List NamedFile) (task : Task) (lines : List ℕ)
    : Type 0 where
  pub digests : List DigestView
  pub are_digests : AreDigests old files digests
  pub same : lines ≡ titled_by digests task

-- the lines in the report of a job that asks for them, and before C
abbrev pub AreLinesOf : FilesSeen → Job → JobTexts → List ℕ → Type 0
AreLinesOf old job texts lines = MatchBool job.worded
    (TellsWords old (named_by job.files ++ named_by_task job.task) job.task job.design texts lines)
    (TellsTitle old (named_by job.files ++ named_by_task job.task) job.task lines)

-- those in the report of a check of this certificate, in the file of this name: the words are those
-- of its design
abbrev pub AreLinesOfCheck : FilesSeen → JobFiles → List ℕ → Bool → JobTexts → Certificate
    → List ℕ → Type 0
AreLinesOfCheck old files name worded texts written lines = MatchBool worded
    (TellsWords old (named_by files ++ certificate_named name ∷ []) tells_words
    (job_of written).design texts lines) (lines ≡ [])
