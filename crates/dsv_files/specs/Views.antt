-- For private contracts: what came of files, as the definitions have it.
use Rattle.std.specs.Prelude.{◌≤◌, length}
use Rattle.dsv_command.specs.Table.{Task, checks_form}
use Rattle.dsv_command.specs.Table.{checks_ellipsoid, runs_file, emits_file_test}
use Rattle.dsv_files.specs.JobTexts as rows
use Rattle.dsv_files.specs.JobTexts.{JobTexts, of_one, of_sections, of_state_file, with_plant}
use Rattle.dsv_files.specs.JobTexts.{sections_with_plant, none, certificate, ellipsoid, input_list}
use Rattle.dsv_files.specs.declared.evidence.Evidence.{Evidence}
use Rattle.dsv_files.specs.declared.evidence.Evidence.TheVariants as of_evidence
use Rattle.dsv_files.specs.declared.texts.Texts.{Texts}
use Rattle.dsv_files.specs.declared.texts.Texts.TheVariants as texts

abbrev pub texts_view : Texts → JobTexts
texts_view (texts.Controller c) = of_one c
texts_view (texts.Cascade s) = of_sections s.first s.later.items
texts_view (texts.States c) = of_state_file c
texts_view (texts.Loop c p) = with_plant c p
texts_view (texts.CascadeLoop s p) = sections_with_plant s.first s.later.items p

abbrev pub evidence_view : Evidence → rows.Evidence
evidence_view of_evidence.Nothing = none
evidence_view (of_evidence.Certificate c) = certificate c
evidence_view (of_evidence.Ellipsoid offer) = ellipsoid offer
evidence_view (of_evidence.Inputs xs) = input_list xs

-- a task has such evidence as it names; the form of an ellipsoid has at most eight places, and
-- there are at most 65,536 inputs
abbrev pub IsEvidenceFor : Task → rows.Evidence → Type 0
IsEvidenceFor (checks_form name) (certificate c) = Unit {0}
IsEvidenceFor (checks_form name) other = ⊥
IsEvidenceFor (checks_ellipsoid name) (ellipsoid offer) = offer.form.d ≤ 8
IsEvidenceFor (checks_ellipsoid name) other = ⊥
IsEvidenceFor (runs_file name outputs) (input_list xs) = length xs ≤ 65536
IsEvidenceFor (runs_file name outputs) other = ⊥
IsEvidenceFor (emits_file_test prefix name) (input_list xs) = length xs ≤ 65536
IsEvidenceFor (emits_file_test prefix name) other = ⊥
IsEvidenceFor task none = Unit {0}
IsEvidenceFor task other = ⊥
