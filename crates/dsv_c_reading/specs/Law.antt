-- What the text of C is read as.
use Rattle.std.specs.Prelude.{◌≡◌, ℕ, List, [], ◌∷◌, ◌++◌, length, map, Some, codes, true}
use Rattle.dsv_netlist.specs.Conditions.{IsNetlist}
use Rattle.dsv_netlist.specs.Nodes.{Net}
use Rattle.dsv_realise.specs.SubjectView.{SubjectView}
use Rattle.dsv_c.specs.Codable.{IsCodable}
use Rattle.dsv_c.specs.Programs.{program_of}
use Rattle.dsv_ctext.specs.Texts.{member_text}
use Rattle.dsv_ctext.specs.UnitTexts.{labels_of, unit_text}
use Rattle.dsv_ctext.specs.declared.names.MemberName.{MemberName}
use Rattle.dsv_ctext.specs.declared.remarks.Origin.{Origin}
use Rattle.dsv_ctext.specs.declared.remarks.Remarks.{Remarks}
use Rattle.dsv_command.specs.CodeNames.{are_name_bytes}
use Rattle.dsv_code.specs.Code.{IsCodeOf, remarks_of}
use Rattle.dsv_c_reading.specs.Labels.{IsIdentifier, AreMembers, AreRemarks}
use Rattle.dsv_c_reading.specs.Units.{CUnit, unit_in}

-- the program of a netlist under these names
abbrev pub unit_named : List ℕ → List MemberName → Net → CUnit
unit_named prefix members net = record {
  prefix = prefix;
  members = map member_text members;
  program = program_of net;
}

-- The text of a netlist's program, read from its bytes, is that program under these names.
abbrev pub ProgramsAreReadBack : Type 0
ProgramsAreReadBack = (net : Net) (prefix : List ℕ) (members : List MemberName)
    (remarks : Remarks) → IsNetlist net → IsCodable net → length members ≡ length net.next
    → IsIdentifier prefix → AreMembers members → AreRemarks remarks
    → unit_in (unit_text (labels_of prefix members remarks) (length net.next) (program_of net))
    ≡ Some (unit_named prefix members net)

-- a text after a comment that has a name
abbrev pub after_comment : List ℕ → List ℕ → List ℕ
after_comment name text = (codes "/* " ++ (name ++ (codes " */" ++ 10 ∷ []))) ++ text

-- So is the text of a subject's code without a test, alone or after a comment that has a name.
abbrev pub SubjectsAreReadBack : Type 0
SubjectsAreReadBack = (s : SubjectView) (prefix : List ℕ) (members : List MemberName)
    (origin : Origin) (text : List ℕ) → IsCodeOf s prefix members origin [] text
    → IsIdentifier prefix → AreMembers members → AreRemarks (remarks_of s origin)
    → (unit_in text ≡ Some (unit_named prefix members s.net))
    × ((name : List ℕ) → are_name_bytes name ≡ true
    → unit_in (after_comment name text) ≡ Some (unit_named prefix members s.net))
