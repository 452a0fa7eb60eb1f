-- What the C of a subject comes to.
use Rattle.std.specs.Prelude.{ℕ, ℤ, List, [], Ok, Err}
use Rattle.std.specs.List.{All}
use Rattle.dsv_word.specs.Words.{IsWord, IsFirstOutside}
use Rattle.dsv_realise.specs.Runs.{rows_of}
use Rattle.dsv_realise.specs.SubjectView.{SubjectView}
use Rattle.dsv_c.specs.Codable.{IsWideValue}
use Rattle.dsv_ctext.specs.declared.names.MemberName.{MemberName}
use Rattle.dsv_ctext.specs.declared.remarks.Origin.{Origin}
use Rattle.dsv_code.specs.Code.{IsCodeOf}
use Rattle.dsv_code.specs.Members.{controller_members, cascade_members, state_members}
use Rattle.dsv_code.specs.Members.{controller_origin, cascade_origin, state_origin}
use Rattle.dsv_code.specs.declared.code.CodeRefusal.{CodeRefusal}
use Rattle.dsv_code.specs.declared.code.CodeRefusal.TheVariants as refusal
use Rattle.dsv_command.specs.Table.{Task, emits_code, emits_test, emits_file_test}
use Rattle.dsv_files.specs.JobTexts.{Evidence, input_list}
use Rattle.dsv_report.specs.declared.answers.Answer.TheVariants as answer
use Rattle.dsv_report.specs.declared.stop.Stop.{Stop}
use Rattle.dsv_report.specs.declared.stop.Stop.TheVariants as stop
use Rattle.dsv_report.specs.Stops.{Outcome}
use Rattle.dsv_cli.specs.Words.{JobWords, of_words, of_series, of_state_words}

-- the names of the registers
abbrev pub members_of : JobWords → List MemberName
members_of (of_words q) = controller_members q
members_of (of_series s) = cascade_members s
members_of (of_state_words s) = state_members s

-- what the code is of
abbrev pub origin_of : JobWords → Origin
origin_of (of_words q) = controller_origin q
origin_of (of_series s) = cascade_origin s
origin_of (of_state_words s) = state_origin s

-- the code, without a test, or the first value that needs more than 64 bits
abbrev pub IsOfCode : SubjectView → List ℕ → List MemberName → Origin → Outcome → Type 0
IsOfCode s prefix members origin (Ok (answer.Code text)) =
    IsCodeOf s prefix members origin [] text
IsOfCode s prefix members origin (Err (stop.WideCode value)) = IsWideValue s.net value
IsOfCode s prefix members origin (Err stop.NoMemory) = Unit {0}
IsOfCode s prefix members origin other = ⊥

-- the code and a test over these inputs, or the first of them that is no word, or else the first
-- value that needs more than 64 bits
abbrev pub IsOfCodeTest : SubjectView → List ℕ → List MemberName → Origin → List ℤ → Outcome
    → Type 0
IsOfCodeTest s prefix members origin inputs (Ok (answer.Code text)) =
    All (IsWord s.runs.format) inputs
    × IsCodeOf s prefix members origin (rows_of s inputs) text
IsOfCodeTest s prefix members origin inputs (Err (stop.InputRange index value)) =
    IsFirstOutside s.runs.format inputs index value
IsOfCodeTest s prefix members origin inputs (Err (stop.WideCode value)) =
    All (IsWord s.runs.format) inputs × IsWideValue s.net value
IsOfCodeTest s prefix members origin inputs (Err stop.NoMemory) = Unit {0}
IsOfCodeTest s prefix members origin inputs other = ⊥

-- ---- for private contracts
-- the task is one of C
abbrev pub Emits : Task → Type 0
Emits (emits_code prefix) = Unit {0}
Emits (emits_test prefix inputs) = Unit {0}
Emits (emits_file_test prefix name) = Unit {0}
Emits other = ⊥

-- what it comes to for a subject
abbrev pub IsEmitted : Task → Evidence → SubjectView → List MemberName → Origin → Outcome → Type 0
IsEmitted (emits_code prefix) evidence s members origin found =
    IsOfCode s prefix members origin found
IsEmitted (emits_test prefix inputs) evidence s members origin found =
    IsOfCodeTest s prefix members origin inputs found
IsEmitted (emits_file_test prefix name) (input_list inputs) s members origin found =
    IsOfCodeTest s prefix members origin inputs found
IsEmitted task evidence s members origin found = ⊥

abbrev pub stop_of_code : CodeRefusal → Stop
stop_of_code (refusal.Wide value) = stop.WideCode value
stop_of_code refusal.NoMemory = stop.NoMemory
