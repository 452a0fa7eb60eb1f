-- The C of a subject.
use Rattle.std.specs.Prelude.{◌≡◌, ℕ, List, [], ◌∷◌, ◌++◌, length}
use Rattle.dsv_word.specs.declared.format.Format.{Format}
use Rattle.dsv_system.specs.Runs.{SampleRow}
use Rattle.dsv_system.specs.Systems.{Agree}
use Rattle.dsv_netlist.specs.Conditions.{IsNetlist}
use Rattle.dsv_netlist.specs.Nodes.{Net}
use Rattle.dsv_netlist.specs.Systems.{runs_of}
use Rattle.dsv_realise.specs.SubjectView.{SubjectView}
use Rattle.dsv_c.specs.Codable.{IsCodable, IsWideValue}
use Rattle.dsv_c.specs.Programs.{program_of}
use Rattle.dsv_ctext.specs.declared.names.MemberName.{MemberName}
use Rattle.dsv_ctext.specs.declared.remarks.Origin.{Origin}
use Rattle.dsv_ctext.specs.declared.remarks.Remarks.{Remarks}
use Rattle.dsv_ctext.specs.TestTexts.{test_text}
use Rattle.dsv_ctext.specs.UnitTexts.{labels_of, unit_text}
use Rattle.dsv_code.specs.declared.code.CodeRefusal.{CodeRefusal}
use Rattle.dsv_code.specs.declared.code.CodeRefusal.TheVariants as refusal

-- its comments
abbrev pub remarks_of : SubjectView → Origin → Remarks
remarks_of s origin = record {
  origin = origin;
  format = s.net.format;
  low = s.low;
  high = s.high;
}

-- the test over the inputs of these rows, if there are any
abbrev pub test_of : Format → List ℕ → List SampleRow → List ℕ
test_of format prefix [] = []
test_of format prefix (row ∷ rows) = test_text format prefix (row ∷ rows)

-- the text of a netlist's program, and of its test
unfoldable pub code_bytes : Net → List ℕ → List MemberName → Remarks → List SampleRow → List ℕ
code_bytes net prefix members remarks rows =
    unit_text (labels_of prefix members remarks) (length net.next) (program_of net)
    ++ test_of net.format prefix rows

-- This is the text of the program of the subject's netlist, with names that begin so and the
-- registers' names, and of its test. All values fit in 64 bits, and nothing tells the netlist's
-- runs from those of the written equations.
pub record IsCodeOf (s : SubjectView) (prefix : List ℕ) (members : List MemberName)
    (origin : Origin) (rows : List SampleRow) (text : List ℕ) : Type 0 where
  pub netlist : IsNetlist s.net
  pub runs : Agree (runs_of s.net) s.runs
  pub codable : IsCodable s.net
  pub named : length members ≡ length s.net.next
  pub text_is : text ≡ code_bytes s.net prefix members (remarks_of s origin) rows

-- why there is none
abbrev pub IsCodeless : SubjectView → CodeRefusal → Type 0
IsCodeless s (refusal.Wide value) = IsWideValue s.net value
IsCodeless s refusal.NoMemory = Unit {0}
