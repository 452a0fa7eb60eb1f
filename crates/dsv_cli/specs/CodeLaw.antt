-- Verdicts speak of the C of their file.
use Rattle.std.specs.Prelude.{◌≡◌, ℕ, ℤ, List, length, map, Some, Ok}
use Rattle.std.specs.List.{All}
use Rattle.dsv_base.specs.Seen.{FilesSeen}
use Rattle.dsv_names.specs.declared.design.Design.{Design}
use Rattle.dsv_word.specs.Words.{IsWord}
use Rattle.dsv_system.specs.Runs.{SampleRow}
use Rattle.dsv_system.specs.Systems.{zeros}
use Rattle.dsv_realise.specs.Runs.{rows_of}
use Rattle.dsv_c.specs.Meaning.{code_results, members_after_init}
use Rattle.dsv_c.specs.Programs.{program_of}
use Rattle.dsv_code.specs.Code.{IsCodeOf}
use Rattle.dsv_command.specs.Table.{JobFiles, controller, cascade, states, plant_loop, cascade_loop}
use Rattle.dsv_command.specs.Table.{Task}
use Rattle.dsv_report.specs.declared.answers.Answer.TheVariants as answer
use Rattle.dsv_report.specs.Stops.{Outcome}
use Rattle.dsv_cli.specs.Accepted.{HoldTheSame}
use Rattle.dsv_cli.specs.Emitting.{Emits, members_of, origin_of}
use Rattle.dsv_cli.specs.JobRows.{IsDoneBy, subject_of}
use Rattle.dsv_cli.specs.Words.{JobWords}

-- The text is C of what has these words: its init sets all registers to 0, and from there no step
-- is stuck over any list of words; its results are the outputs of the written equations of these
-- words.
pub record IsCodeOfWords (words : JobWords) (text : List ℕ) : Type 0 where
  pub prefix : List ℕ
  pub rows : List SampleRow
  pub code : IsCodeOf (subject_of words) prefix (members_of words) (origin_of words) rows text
  pub starts : (before : List ℤ) → length before ≡ (subject_of words).runs.many
      → members_after_init (program_of (subject_of words).net) before
      ≡ Some (zeros (subject_of words).runs.many)
  pub runs : (xs : List ℤ) → All (IsWord (subject_of words).runs.format) xs
      → code_results (program_of (subject_of words).net) (zeros (subject_of words).runs.many) xs
      ≡ Some (map (λ (r : SampleRow). r.y) (rows_of (subject_of words) xs))

-- the files of the C of what is in a loop
abbrev pub without_plant : JobFiles → JobFiles
without_plant (controller file) = controller file
without_plant (cascade file later) = cascade file later
without_plant (states file) = states file
without_plant (plant_loop file plant) = controller file
without_plant (cascade_loop file later plant) = cascade file later

-- If C was written of a file in a design, then each verdict on files of the same bytes in the same
-- design, alone or in a loop with a plant, has the words of that C in its row: what the row says of
-- the runs of these words it says of what the C does.
abbrev pub VerdictsSpeakOfCode : Type 0
VerdictsSpeakOfCode = (old then_old : FilesSeen) (files : JobFiles) (design : Design)
    (coding task : Task) (text : List ℕ) (found : Outcome) → Emits coding
    → HoldTheSame old (without_plant files) then_old (without_plant files)
    → IsDoneBy old (without_plant files) coding design (Ok (answer.Code text))
    → (verdict : IsDoneBy then_old files task design found) → IsCodeOfWords verdict.words text
