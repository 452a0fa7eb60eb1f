-- What a run of the command is.
use Rattle.std.specs.Prelude.{◌≡◌, ℕ, false, List, IfSome}
use Rattle.dsv_base.specs.Seen.{FilesSeen, SinkSeen}
use Rattle.dsv_certfile.specs.Typed.{IsTyped}
use Rattle.dsv_command.specs.Requests.{reason_of, request_of}
use Rattle.dsv_quantiser.specs.QuantisedView.{QuantisedView}
use Rattle.dsv_report.specs.Headings.{asked_by}
use Rattle.dsv_report.specs.Output.{run_text, certificate_written}
use Rattle.dsv_report.specs.Report.{status_of}
use Rattle.dsv_cli.specs.declared.command.Done.{Done}
use Rattle.dsv_cli.specs.JobRows.{IsAnswered, IsSaid, AreInRow, AreLines}
use Rattle.dsv_base.specs.Seen.{AreKept}
use Rattle.dsv_base.specs.Taking.{IsWritten, IfWhole}
use Rattle.dsv_cli.specs.Proposers.{IfNoForm, Wants, is_low, AsksSchurCohn}

-- A run for these arguments: the files before and after it, the sink before and after it, how it is
-- done, and what is said of the proposers of sets for words of a controller.
pub record IsDone (old new : FilesSeen) (from to : SinkSeen) (arguments : List (List ℕ))
    (done : Done) (AreAsked : (QuantisedView → Type 0) → Type 0) : Type 0 where
  -- the outcome's row in the table holds
  pub explained : IsAnswered old new (request_of arguments) done.outcome
  -- a polynomial of order 0 or 1, or 2 with small coefficients, is always decided
  pub low_orders : IfNoForm done.outcome (λ poly kept. is_low poly ≡ false)
  -- if the Schur-Cohn form is asked for, so is each: by its table at last
  pub schur_cohn : Wants AsksSchurCohn (request_of arguments)
      → IfNoForm done.outcome (λ poly kept. ⊥)
  -- what a certificate says of the words is what the texts of this row have, and so is how many
  -- states the report of a state-space controller says
  pub said : IsSaid old new (request_of arguments) done.outcome explained done.states done.words
  -- the lines at the head are those of this row: those that tell words, if they are asked for, or
  -- before C the name of the controller
  pub lines : AreLines old new (request_of arguments) done.outcome explained done.lines
  -- the proposers of sets were asked for the words of this row
  pub sets : AreAsked (AreInRow old new (request_of arguments) done.outcome explained)
  -- what the files hold is as before
  pub kept : AreKept old new
  -- the certificate that the job wants, or the reason that is asked for, or else the outcome's
  -- text, was written and the status is the outcome's, or the status is 4 and the sink failed
  pub written : IsWritten from to done.status (status_of done.outcome)
      (run_text (reason_of arguments) (asked_by done.states (request_of arguments)) done.lines
      done.words done.outcome)
  -- of a certificate that was written whole its types are known
  pub typed : IfWhole done.status (IfSome (certificate_written
      (asked_by done.states (request_of arguments)) done.words done.outcome) IsTyped)
