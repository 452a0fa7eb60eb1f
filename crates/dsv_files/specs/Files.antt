-- The files that jobs name: what a file has by its kind, and what keeps it from that.
use Rattle.std.specs.Prelude.{◌≡◌, ◌⊎◌, ℕ, ℤ, ◌+◌, ◌^◌, ◌<◌, ◌≤◌, List, length, Some, Ok, Err}
use Rattle.dsv_base.specs.Counts.{Rose}
use Rattle.dsv_base.specs.Seen.{FilesSeen, CameOf}
use Rattle.dsv_reader.specs.Controllers.{ControllerView}
use Rattle.dsv_reader.specs.Plants.{PlantView}
use Rattle.dsv_reader.specs.Reading.{plant_reading}
use Rattle.dsv_reader.specs.Texts.{IsTextOf, IsFaultOf, IsPlantText}
use Rattle.dsv_token.specs.declared.refusal.FileRefusal.{FileRefusal}
use Rattle.dsv_token.specs.declared.refusal.FileRefusal.TheVariants as text
use Rattle.dsv_input_file.specs.InputTexts.{inputs_in}
use Rattle.dsv_state_file.specs.Reading.{state_of}
use Rattle.dsv_state_file.specs.StateFiles.{StateFileView}
use Rattle.dsv_state_file.specs.StateTexts.{IsStateText}
use Rattle.dsv_certfile.specs.Ellipsoids.{ellipsoid_in}
use Rattle.dsv_certfile.specs.Reading.{certificate_in}
use Rattle.dsv_certfile.specs.declared.certificate.Certificate.{Certificate}
use Rattle.dsv_certfile.specs.declared.ellipsoid.Ellipsoid.{Ellipsoid}
use Rattle.dsv_certfile.specs.declared.fault.CertRefusal.TheVariants as unread
use Rattle.dsv_report.specs.declared.stop.CertificateFault.TheVariants as fault
use Rattle.dsv_report.specs.declared.stop.InputsFault.TheVariants as inputs_fault
use Rattle.dsv_report.specs.declared.stop.Stop.{Stop}
use Rattle.dsv_report.specs.declared.stop.Stop.TheVariants as stop
use Rattle.dsv_report.specs.declared.stop.WhichFile.{WhichFile}
use Rattle.dsv_report.specs.declared.stop.WhichFile.TheVariants as file
use Rattle.dsv_report.specs.Stops.{Outcome}

-- ---- kinds
pub data FileKind : Type 0 where
  a_controller : FileKind
  -- a later section of a cascade, by its number
  a_section : ℕ → FileKind
  a_state_controller : FileKind
  a_plant : FileKind
  a_certificate : FileKind
  an_ellipsoid : FileKind
  -- the inputs of a run
  some_inputs : FileKind

-- the name that refusals have for a file of the kind
abbrev pub which_of : FileKind → WhichFile
which_of a_controller = file.Controller
which_of (a_section section) = file.Section section
which_of a_state_controller = file.Controller
which_of a_plant = file.Plant
which_of a_certificate = file.Certificate
which_of an_ellipsoid = file.Certificate
which_of some_inputs = file.Inputs

-- ---- bytes
-- the most bytes that a controller file has
abbrev pub longest_file : ℕ
longest_file = 65536

-- the most bytes that a certificate's file has: 64 MiB
abbrev pub longest_certificate : ℕ
longest_certificate = 2 ^ 26

-- the most bytes that a file of inputs has: 1 MiB
abbrev pub longest_inputs : ℕ
longest_inputs = 2 ^ 20

-- the most bytes that the file may have
abbrev pub limit_of : WhichFile → ℕ
limit_of file.Certificate = longest_certificate
limit_of file.Inputs = longest_inputs
limit_of which = longest_file

-- why there is no answer if it has more
abbrev pub too_long_of : WhichFile → Stop
too_long_of file.Certificate = stop.CertificateRefused 0 fault.TooLong
too_long_of file.Inputs = stop.InputsRefused inputs_fault.TooLong
too_long_of which = stop.FileTooLong which

-- Why the bytes of the file of this name didn't come: the files were `old` and are `new`.
abbrev pub NoneCame : FilesSeen → FilesSeen → List ℕ → WhichFile → Stop → Type 0
NoneCame old new name which (stop.ReadFault of_file) =
    (of_file ≡ which) × Rose old.faults new.faults × (new.blamed ≡ Some name)
NoneCame old new name which stop.NoMemory = Unit {0}
NoneCame old new name which why = (why ≡ too_long_of which)
    × CameOf (old.held name) (λ bytes. limit_of which < length bytes)
    × Rose (old.came + limit_of which) new.came

-- ---- texts
-- what a file of the kind has the text of
abbrev pub Content : FileKind → Type 0
Content a_controller = ControllerView
Content (a_section section) = ControllerView
Content a_state_controller = StateFileView
Content a_plant = PlantView
Content a_certificate = Certificate
Content an_ellipsoid = Ellipsoid
Content some_inputs = List ℤ

-- the bytes are its text
abbrev pub IsText : (kind : FileKind) → List ℕ → Content kind → Type 0
IsText a_controller bytes c = IsTextOf bytes c
IsText (a_section section) bytes c = IsTextOf bytes c
IsText a_state_controller bytes c = IsStateText bytes c
IsText a_plant bytes p = IsPlantText bytes p
IsText a_certificate bytes c = certificate_in bytes ≡ Ok c
IsText an_ellipsoid bytes offer = ellipsoid_in bytes ≡ Ok offer
IsText some_inputs bytes inputs = inputs_in bytes ≡ Ok inputs

-- The text is refused so, by its fault; want of memory is none.
abbrev pub IsRefusedBy : (FileRefusal → Type 0) → WhichFile → Stop → Type 0
IsRefusedBy IsFault which (stop.FileRefused of_file text.NoMemory) = ⊥
IsRefusedBy IsFault which (stop.FileRefused of_file r) = (of_file ≡ which) × IsFault r
IsRefusedBy IsFault which other = ⊥

-- the bytes are no such text, by this fault
abbrev pub IsFaulty : FileKind → List ℕ → Stop → Type 0
IsFaulty a_controller bytes why = IsRefusedBy (IsFaultOf bytes) file.Controller why
IsFaulty (a_section section) bytes why = IsRefusedBy (IsFaultOf bytes) (file.Section section) why
IsFaulty a_plant bytes why = IsRefusedBy (λ r. plant_reading bytes ≡ Err r) file.Plant why
IsFaulty a_state_controller bytes (stop.StateRefused r) = state_of bytes ≡ Err r
IsFaulty a_certificate bytes (stop.CertificateRefused line (fault.Text why)) =
    certificate_in bytes ≡ Err (unread.Text line why)
IsFaulty an_ellipsoid bytes (stop.EllipsoidText r) = ellipsoid_in bytes ≡ Err r
IsFaulty some_inputs bytes (stop.InputsRefused (inputs_fault.Text r)) = inputs_in bytes ≡ Err r
IsFaulty kind bytes other = ⊥

-- ---- files
-- the file of this name is of the kind, and has the text of this
abbrev pub IsFileOf : (kind : FileKind) → FilesSeen → List ℕ → Content kind → Type 0
IsFileOf kind old name x = CameOf (old.held name)
    (λ bytes. (length bytes ≤ limit_of (which_of kind)) × IsText kind bytes x)

-- What keeps the file of this name from being of the kind: its bytes didn't come, or have a fault.
-- The files were `old` and are `new`.
abbrev pub IsUnread : FileKind → FilesSeen → FilesSeen → List ℕ → Stop → Type 0
IsUnread kind old new name why = NoneCame old new name (which_of kind) why
    ⊎ CameOf (old.held name)
    (λ bytes. (length bytes ≤ limit_of (which_of kind)) × IsFaulty kind bytes why)

-- the outcome is a fault of a read, or that there was no memory
abbrev pub IsLost : Outcome → Type 0
IsLost (Err (stop.ReadFault of_file)) = Unit {0}
IsLost (Err stop.NoMemory) = Unit {0}
IsLost other = ⊥
