-- Serves private contracts: why the files of a cascade aren't those of controllers.
use Rattle.std.specs.Prelude.{◌⊎◌, ℕ, List}
use Rattle.dsv_base.specs.Seen.{FilesSeen}
use Rattle.dsv_report.specs.declared.stop.Stop.{Stop}
use Rattle.dsv_reader.specs.Controllers.{ControllerView}
use Rattle.dsv_files.specs.JobTexts.{IsLaterUnread}
use Rattle.dsv_files.specs.Files.{a_controller, IsFileOf, IsUnread}

-- the first file isn't a controller's, or a later one isn't
abbrev pub IsFilesUnread : FilesSeen → FilesSeen → List ℕ → List (List ℕ) → Stop → Type 0
IsFilesUnread old new name names why = IsUnread a_controller old new name why
    ⊎ ((c : ControllerView) × IsFileOf a_controller old name c × IsLaterUnread old new names why)
