-- A refusal comes exactly where it is stated.
use Rattle.std.specs.Prelude.{◌≡◌, ◌⊎◌, Some, Err}
use Rattle.dsv_base.specs.Seen.{FilesSeen}
use Rattle.dsv_command.specs.Table.{Task, checks_form, checks_ellipsoid, Request}
use Rattle.dsv_command.specs.Table.{does, checks, generates, runs_file, emits_file_test}
use Rattle.dsv_report.specs.declared.stop.Stop.{Stop}
use Rattle.dsv_report.specs.Stops.{Outcome}
use Rattle.dsv_cli.specs.Accepted.{HoldsTheSame, HoldTheSame}
use Rattle.dsv_files.specs.Files.{IsLost}
use Rattle.dsv_cli.specs.JobRows.{IsAnswered}

-- the file that a task names, if it names one, holds the same bytes, which are told
abbrev pub NamesTheSame : FilesSeen → FilesSeen → Task → Type 0
NamesTheSame old then_old (checks_form name) = HoldsTheSame old name then_old name
NamesTheSame old then_old (checks_ellipsoid name) = HoldsTheSame old name then_old name
NamesTheSame old then_old (runs_file name outputs) = HoldsTheSame old name then_old name
NamesTheSame old then_old (emits_file_test prefix name) = HoldsTheSame old name then_old name
NamesTheSame old then_old task = Unit {0}

-- all files that a request names hold the same bytes, which are told
abbrev pub IsToldTheSame : FilesSeen → FilesSeen → Request → Type 0
IsToldTheSame old then_old (does job) =
    HoldTheSame old job.files then_old job.files × NamesTheSame old then_old job.task
IsToldTheSame old then_old (checks files name worded) =
    HoldTheSame old files then_old files × HoldsTheSame old name then_old name
IsToldTheSame old then_old (generates seed count) = Unit {0}

-- If a request may end with a refusal, then this is what each answer to the request is while its
-- files have the same bytes, but for faults of reads and want of memory.
abbrev pub RefusalsComeExactly : Type 0
RefusalsComeExactly =
    (old new then_old then_new : FilesSeen) (request : Request) (why : Stop) (found : Outcome)
    → IsToldTheSame old then_old request → (IsLost (Err why) → ⊥)
    → IsAnswered old new (Some request) (Err why)
    → IsAnswered then_old then_new (Some request) found → (found ≡ Err why) ⊎ IsLost found
