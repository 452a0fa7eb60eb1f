-- A request to which no refusal applies is decided or inconclusive, where no fault rises and there
-- is memory. It speaks of files whose bytes are told: of others some bytes always have a fault.
use Rattle.std.specs.Prelude.{◌≡◌, ◌⊎◌, ℕ, Some, Err}
use Rattle.dsv_base.specs.Counts.{Rose}
use Rattle.dsv_base.specs.Seen.{FilesSeen}
use Rattle.dsv_command.specs.Requests.{IsInTable}
use Rattle.dsv_command.specs.Table.{Request}
use Rattle.dsv_report.specs.Report.{status_of}
use Rattle.dsv_report.specs.declared.stop.Stop.TheVariants as stop
use Rattle.dsv_report.specs.Stops.{Outcome}
use Rattle.dsv_cli.specs.JobRows.{IsAnswered}

-- the status of a job that is done or holds, that fails, or that is inconclusive
abbrev pub IsVerdict : ℕ → Type 0
IsVerdict status = (status ≡ 0) ⊎ ((status ≡ 10) ⊎ (status ≡ 20))

-- the status of a refusal: of the command line, of the controller's file, of a job that is too
-- large, of a certificate
abbrev pub IsRefusal : ℕ → Type 0
IsRefusal status = (status ≡ 1) ⊎ ((status ≡ 2) ⊎ ((status ≡ 6) ⊎ (status ≡ 7)))

-- No refusal has its row in the table.
abbrev pub IsRefusedByNone : (Outcome → Type 0) → Type 0
IsRefusedByNone HasRow = (why : Outcome) → IsRefusal (status_of why) → HasRow why → ⊥

-- What has its row in the table, where no refusal has one and no fault of a read rose, is a
-- verdict, or there was no memory.
abbrev pub IsDecidedBy : FilesSeen → FilesSeen → (Outcome → Type 0) → Type 0
IsDecidedBy old new HasRow = (found : Outcome) → HasRow found → IsRefusedByNone HasRow
    → (Rose old.faults new.faults → ⊥)
    → IsVerdict (status_of found) ⊎ (found ≡ Err stop.NoMemory)

-- Each request of the table is decided so.
abbrev pub AreDecided : Type 0
AreDecided = (old new : FilesSeen) (request : Request) → IsInTable request
    → IsDecidedBy old new (IsAnswered old new (Some request))
