-- What a subject's code does.
use Rattle.std.specs.Prelude.{◌≡◌, ℕ, List, length, map, Some, ℤ}
use Rattle.std.specs.List.{All}
use Rattle.dsv_word.specs.Words.{IsWord}
use Rattle.dsv_system.specs.Runs.{SampleRow}
use Rattle.dsv_system.specs.Systems.{zeros}
use Rattle.dsv_realise.specs.Runs.{rows_of}
use Rattle.dsv_realise.specs.SubjectView.{SubjectView}
use Rattle.dsv_c.specs.Meaning.{code_results, members_after_init}
use Rattle.dsv_c.specs.Programs.{program_of}
use Rattle.dsv_ctext.specs.declared.names.MemberName.{MemberName}
use Rattle.dsv_ctext.specs.declared.remarks.Origin.{Origin}
use Rattle.dsv_code.specs.Code.{IsCodeOf}

-- What code there is of a subject, its init sets all registers to 0, whatever they were, and from
-- there no step is stuck over any list of words: its results are the outputs of the subject's
-- written equations.
abbrev pub CodeRunsAsSubject : Type 0
CodeRunsAsSubject = (s : SubjectView) (prefix : List ℕ) (members : List MemberName)
    (origin : Origin) (rows : List SampleRow) (text : List ℕ)
    → IsCodeOf s prefix members origin rows text
    → ((before : List ℤ) → length before ≡ s.runs.many
    → members_after_init (program_of s.net) before ≡ Some (zeros s.runs.many))
    × ((xs : List ℤ) → All (IsWord s.runs.format) xs
    → code_results (program_of s.net) (zeros s.runs.many) xs
    ≡ Some (map (λ (r : SampleRow). r.y) (rows_of s xs)))
