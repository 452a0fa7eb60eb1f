-- For private contracts: the kinds of the files of a cascade's sections.
use Rattle.dsv_report.specs.declared.stop.WhichFile.{WhichFile}
use Rattle.dsv_report.specs.declared.stop.WhichFile.TheVariants as file
use Rattle.dsv_files.specs.Files.{FileKind, a_controller, a_section}

-- the file of a controller, or of a section
abbrev pub IsOfController : WhichFile → Type 0
IsOfController file.Controller = Unit {0}
IsOfController (file.Section section) = Unit {0}
IsOfController other = ⊥

abbrev pub controller_kind : WhichFile → FileKind
controller_kind (file.Section section) = a_section section
controller_kind other = a_controller
