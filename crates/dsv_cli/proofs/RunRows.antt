-- A run is done for its arguments as it is for their request and their reason.
use Rattle.std.proofs.Common.{◌≡◌, inr, ℕ, List, [], Option, Some, None, Ok, Err, refl, subst, arith}
use Rattle.std.specs.Prelude.{IfSome}
use Rattle.dsv_base.specs.Seen.{FilesSeen, SinkSeen, AreKept}
use Rattle.dsv_certfile.specs.Typed.{IsTyped}
use Rattle.dsv_certfile.specs.declared.job.CertWords.TheVariants as words_said
use Rattle.dsv_command.specs.Reasons.{Reason}
use Rattle.dsv_command.specs.Requests.{reason_of, request_of}
use Rattle.dsv_command.specs.Table.{Request}
use Rattle.dsv_quantiser.specs.QuantisedView.{QuantisedView}
use Rattle.dsv_report.specs.Headings.{asked_by}
use Rattle.dsv_report.specs.Output.{run_text, output_of, certificate_written}
use Rattle.dsv_report.specs.Reasons.{reason_text}
use Rattle.dsv_report.specs.Report.{status_of}
use Rattle.dsv_report.specs.declared.stop.Stop.TheVariants as stop
use Rattle.dsv_report.specs.Stops.{Outcome}
use Rattle.dsv_cli.specs.declared.command.Done.{Done}
use Rattle.dsv_cli.specs.JobRows.{IsAnswered, IsSaid, AreInRow, AreLines}
use Rattle.dsv_base.specs.Taking.{IsWritten, IfWhole}
use Rattle.dsv_cli.specs.Runs.{IsDone}
use Rattle.dsv_cli.proofs.Undecided.{low_is_decided, table_decides}

-- what is known of a request and a reason
pub record IsDoneFor (old new : FilesSeen) (from to : SinkSeen) (request : Option Request) (reason : Option Reason) (done : Done) (AreAsked : (QuantisedView → Type 0) → Type 0) : Type 0 where
  pub answered : IsAnswered old new request done.outcome
  pub said : IsSaid old new request done.outcome answered done.states done.words
  pub lines : AreLines old new request done.outcome answered done.lines
  pub sets : AreAsked (AreInRow old new request done.outcome answered)
  pub kept : AreKept old new
  pub written : IsWritten from to done.status (status_of done.outcome) (run_text reason (asked_by done.states request) done.lines done.words done.outcome)
  pub typed : IfWhole done.status (IfSome (certificate_written (asked_by done.states request) done.words done.outcome) IsTyped)

done_as : (old new : FilesSeen) (from to : SinkSeen) (arguments : List (List ℕ)) (done : Done) (AreAsked : (QuantisedView → Type 0) → Type 0) → IsDoneFor old new from to (request_of arguments) (reason_of arguments) done AreAsked → IsDone old new from to arguments done AreAsked
done_as old new from to arguments done AreAsked b = record {
  explained = b.answered;
  low_orders = low_is_decided old new (request_of arguments) done.outcome b.answered;
  schur_cohn = table_decides old new (request_of arguments) done.outcome b.answered;
  said = b.said;
  lines = b.lines;
  sets = b.sets;
  kept = b.kept;
  written = b.written;
  typed = b.typed;
}

pub done_by : (old new : FilesSeen) (from to : SinkSeen) (arguments : List (List ℕ)) (request : Option Request) (reason : Option Reason) (done : Done) (AreAsked : (QuantisedView → Type 0) → Type 0) → request ≡ request_of arguments → reason ≡ reason_of arguments
    → IsDoneFor old new from to request reason done AreAsked → IsDone old new from to arguments done AreAsked
done_by old new from to arguments request reason done AreAsked e n b =
    done_as old new from to arguments done AreAsked (subst (λ r. IsDoneFor old new from to r (reason_of arguments) done AreAsked) e (subst (λ w. IsDoneFor old new from to request w done AreAsked) n b))

-- what is said of proposers may say less
pub done_with : (old new : FilesSeen) (from to : SinkSeen) (arguments : List (List ℕ)) (done : Done) (AreAsked AreTold : (QuantisedView → Type 0) → Type 0) → ((becomes : QuantisedView → Type 0) → AreAsked becomes → AreTold becomes)
    → IsDone old new from to arguments done AreAsked → IsDone old new from to arguments done AreTold
done_with old new from to arguments done AreAsked AreTold f b = record {
  explained = b.explained;
  low_orders = b.low_orders;
  schur_cohn = b.schur_cohn;
  said = b.said;
  lines = b.lines;
  sets = f _ b.sets;
  kept = b.kept;
  written = b.written;
  typed = b.typed;
}

no_lines : (old new : FilesSeen) (found : Outcome) (row : IsAnswered old new None found) (lines : List ℕ) → lines ≡ [] → AreLines old new None found row lines
no_lines old new (Ok found) row lines e = e
no_lines old new (Err why) row lines e = tt

-- nothing is asked for, and why is asked or not
usage_done : (old : FilesSeen) (from to : SinkSeen) (reason : Option Reason) (done : Done) (AreAsked : (QuantisedView → Type 0) → Type 0) → done.outcome ≡ Err stop.Usage → done.words ≡ words_said.Unsaid → done.states ≡ 0 → done.lines ≡ []
    → IsWritten from to done.status (status_of (Err stop.Usage)) (run_text reason None [] words_said.Unsaid (Err stop.Usage)) → AreAsked (λ q. ⊥) → IsDoneFor old old from to None reason done AreAsked
usage_done old from to reason done AreAsked o w s l written asked = record {
  answered = inr (o, refl);
  said = (s, w);
  lines = no_lines old old done.outcome (inr (o, refl)) done.lines l;
  sets = asked;
  kept = record { held = refl; faults = omega arith };
  written = rw (o, w, l) written;
  typed = λ x. tt;
}

pub asks_nothing : (old : FilesSeen) (from to : SinkSeen) (arguments : List (List ℕ)) (done : Done) (AreAsked : (QuantisedView → Type 0) → Type 0) → None ≡ request_of arguments → None ≡ reason_of arguments → done.outcome ≡ Err stop.Usage → done.words ≡ words_said.Unsaid → done.states ≡ 0 → done.lines ≡ []
    → IsWritten from to done.status (status_of (Err stop.Usage)) (output_of None [] words_said.Unsaid (Err stop.Usage)) → AreAsked (λ q. ⊥) → IsDone old old from to arguments done AreAsked
asks_nothing old from to arguments done AreAsked e n o w s l written asked = done_by old old from to arguments None None done AreAsked e n (usage_done old from to None done AreAsked o w s l written asked)

pub asks_why : (old : FilesSeen) (from to : SinkSeen) (arguments : List (List ℕ)) (reason : Reason) (done : Done) (AreAsked : (QuantisedView → Type 0) → Type 0) → None ≡ request_of arguments → Some reason ≡ reason_of arguments → done.outcome ≡ Err stop.Usage → done.words ≡ words_said.Unsaid
    → done.states ≡ 0 → done.lines ≡ [] → IsWritten from to done.status (status_of (Err stop.Usage)) (reason_text reason) → AreAsked (λ q. ⊥) → IsDone old old from to arguments done AreAsked
asks_why old from to arguments reason done AreAsked e n o w s l written asked = done_by old old from to arguments None (Some reason) done AreAsked e n (usage_done old from to (Some reason) done AreAsked o w s l written asked)
