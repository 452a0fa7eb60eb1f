-- What a command line asks for.
use Rattle.std.specs.Prelude.{◌≡◌, ℕ, true, List, [], ◌∷◌, Option, Some, None, Result, Ok, Err}
use Rattle.std.specs.Prelude.{codes, if◌then◌else◌}
use Rattle.std.specs.Result.{result_ok}
use Rattle.std.specs.Str.{bytes_eq}
use Rattle.dsv_command.specs.Finding.{asked_of}
use Rattle.dsv_command.specs.Reasons.{Reason}
use Rattle.dsv_command.specs.Table.{Request, does, checks, generates, kind_of, has_cell}
use Rattle.dsv_command.specs.Table.{may_certify, is_checked}

-- `--why` before the rest of a line asks why the rest asks for nothing
abbrev pub why_word : List ℕ
why_word = codes "--why"

-- the request of a list of arguments, or none
unfoldable pub request_of : List (List ℕ) → Option Request
request_of [] = result_ok (asked_of [])
request_of (first ∷ rest) = if bytes_eq first why_word then None
    else result_ok (asked_of (first ∷ rest))

abbrev pub reason_in : Result Request Reason → Option Reason
reason_in (Ok request) = None
reason_in (Err reason) = Some reason

-- the reason that a list of arguments asks for, if it asks for one and there is one
unfoldable pub reason_of : List (List ℕ) → Option Reason
reason_of [] = None
reason_of (first ∷ rest) = if bytes_eq first why_word then reason_in (asked_of rest) else None

-- the table has such a request: a task of what is asked about, or the check of its certificate
abbrev pub IsInTable : Request → Type 0
IsInTable (does job) = has_cell (kind_of job.files) job.task ≡ true
IsInTable (checks files name worded) = is_checked (kind_of files) ≡ true
IsInTable (generates seed count) = Unit {0}

-- a certificate is asked for of what has one
abbrev pub IsCertifiable : Request → Type 0
IsCertifiable (does job) = job.certified ≡ true → may_certify (kind_of job.files) job.task ≡ true
IsCertifiable other = Unit {0}
