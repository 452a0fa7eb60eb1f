-- What the files of a job have, and the file that its task names.
use Rattle.std.specs.Prelude.{◌≡◌, ◌⊎◌, ℕ, ℤ, List, Some, suc, take, slice_get}
use Rattle.dsv_base.specs.Seen.{FilesSeen}
use Rattle.dsv_reader.specs.Controllers.{ControllerView}
use Rattle.dsv_reader.specs.Plants.{PlantView}
use Rattle.dsv_state_file.specs.StateFiles.{StateFileView}
use Rattle.dsv_certfile.specs.Words.{words_for}
use Rattle.dsv_certfile.specs.declared.certificate.Certificate.{Certificate}
use Rattle.dsv_certfile.specs.declared.ellipsoid.Ellipsoid.{Ellipsoid}
use Rattle.dsv_certfile.specs.declared.job.CertWords.{CertWords}
use Rattle.dsv_command.specs.Table.{JobFiles, controller, cascade, states, plant_loop, cascade_loop}
use Rattle.dsv_command.specs.Table.{Task, checks_form, checks_ellipsoid, runs_file, emits_file_test}
use Rattle.dsv_report.specs.declared.stop.Stop.{Stop}
use Rattle.dsv_files.specs.Files.{a_controller, a_state_controller, a_plant, a_certificate}
use Rattle.dsv_files.specs.Files.{an_ellipsoid, some_inputs, IsFileOf, IsUnread, a_section}
use Rattle.dsv_base.specs.Lists.{Pairwise}
use Rattle.dsv_certfile.specs.declared.job.CertWords.TheVariants as words
use Rattle.dsv_report.specs.declared.stop.Stop.TheVariants as stop

-- ---- the files
-- what the files of a job have the texts of
pub data JobTexts : Type 0 where
  of_one : ControllerView → JobTexts
  -- the first section and the later ones
  of_sections : ControllerView → List ControllerView → JobTexts
  of_state_file : StateFileView → JobTexts
  with_plant : ControllerView → PlantView → JobTexts
  sections_with_plant : ControllerView → List ControllerView → PlantView → JobTexts

-- so have the files of these names
abbrev pub AreControllers : FilesSeen → List (List ℕ) → List ControllerView → Type 0
AreControllers old = Pairwise (IsFileOf a_controller old)

-- what keeps one of the later files from being a controller's, where those before it are
-- controllers'
abbrev pub IsLaterUnread : FilesSeen → FilesSeen → List (List ℕ) → Stop → Type 0
IsLaterUnread old new names stop.NoMemory = Unit {0}
IsLaterUnread old new names why = (i : ℕ) × (name : List ℕ) × (slice_get names i ≡ Some name)
    × (before : List ControllerView) × AreControllers old (take i names) before
    × IsUnread (a_section (suc i)) old new name why

-- the files have these texts
abbrev pub HaveTexts : FilesSeen → JobFiles → JobTexts → Type 0
HaveTexts old (controller name) (of_one c) = IsFileOf a_controller old name c
HaveTexts old (cascade name later) (of_sections c cs) =
    IsFileOf a_controller old name c × AreControllers old later cs
HaveTexts old (states name) (of_state_file c) = IsFileOf a_state_controller old name c
HaveTexts old (plant_loop name plant) (with_plant c p) =
    IsFileOf a_controller old name c × IsFileOf a_plant old plant p
HaveTexts old (cascade_loop name later plant) (sections_with_plant c cs p) =
    IsFileOf a_controller old name c × AreControllers old later cs × IsFileOf a_plant old plant p
HaveTexts old files texts = ⊥

-- what keeps the first file from being the one that it has to be, or a later one, where those
-- before it are
abbrev pub AreUnread : FilesSeen → FilesSeen → JobFiles → Stop → Type 0
AreUnread old new (controller name) why = IsUnread a_controller old new name why
AreUnread old new (cascade name later) why = IsUnread a_controller old new name why
    ⊎ ((c : ControllerView) × IsFileOf a_controller old name c × IsLaterUnread old new later why)
AreUnread old new (states name) why = IsUnread a_state_controller old new name why
AreUnread old new (plant_loop name plant) why = IsUnread a_controller old new name why
    ⊎ ((c : ControllerView) × IsFileOf a_controller old name c
    × IsUnread a_plant old new plant why)
AreUnread old new (cascade_loop name later plant) why =
    IsUnread a_controller old new name why
    ⊎ (((c : ControllerView) × IsFileOf a_controller old name c × IsLaterUnread old new later why)
    ⊎ ((c : ControllerView) × (cs : List ControllerView) × IsFileOf a_controller old name c
    × AreControllers old later cs × IsUnread a_plant old new plant why))

-- ---- what a task names
pub data Evidence : Type 0 where
  none : Evidence
  certificate : Certificate → Evidence
  ellipsoid : Ellipsoid → Evidence
  input_list : List ℤ → Evidence

-- the file that the task names, if it does, has this
abbrev pub HasEvidence : FilesSeen → Task → Evidence → Type 0
HasEvidence old (checks_form name) (certificate c) = IsFileOf a_certificate old name c
HasEvidence old (checks_form name) other = ⊥
HasEvidence old (checks_ellipsoid name) (ellipsoid offer) = IsFileOf an_ellipsoid old name offer
HasEvidence old (checks_ellipsoid name) other = ⊥
HasEvidence old (runs_file name outputs) (input_list xs) = IsFileOf some_inputs old name xs
HasEvidence old (runs_file name outputs) other = ⊥
HasEvidence old (emits_file_test prefix name) (input_list xs) = IsFileOf some_inputs old name xs
HasEvidence old (emits_file_test prefix name) other = ⊥
HasEvidence old task none = Unit {0}
HasEvidence old task other = ⊥

-- what keeps the file that the task names from having it
abbrev pub IsEvidenceUnread : FilesSeen → FilesSeen → Task → Stop → Type 0
IsEvidenceUnread old new (checks_form name) why = IsUnread a_certificate old new name why
IsEvidenceUnread old new (checks_ellipsoid name) why = IsUnread an_ellipsoid old new name why
IsEvidenceUnread old new (runs_file name outputs) why = IsUnread some_inputs old new name why
IsEvidenceUnread old new (emits_file_test prefix name) why = IsUnread some_inputs old new name why
IsEvidenceUnread old new task why = ⊥

-- ---- what is said of files
-- How many states are said of what files have, and what certificates say of its words: of a
-- controller alone or in its loop nothing but its format, of a state-space controller both, and of
-- cascades nothing.
abbrev pub IsSaidOf : JobTexts → ℕ → CertWords → Type 0
IsSaidOf (of_one c) many said = (many ≡ 0) × (said ≡ words_for c.int_bits c.frac_bits)
IsSaidOf (with_plant c p) many said = (many ≡ 0) × (said ≡ words_for c.int_bits c.frac_bits)
IsSaidOf (of_state_file c) many said =
    (many ≡ c.states) × (said ≡ words_for c.int_bits c.frac_bits)
IsSaidOf texts many said = (many ≡ 0) × (said ≡ words.Unsaid)
