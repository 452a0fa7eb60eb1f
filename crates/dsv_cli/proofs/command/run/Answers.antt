use Rattle.std.proofs.Common.{rules, ◌≡◌, Some, None, map, string_bytes, subst}
use Rattle.std.specs.Prelude.{Err, IfSome}
use Rattle.dsv_quantiser.specs.QuantisedView.{QuantisedView}
use Rattle.dsv_certfile.specs.Typed.{IsTyped}
use Rattle.dsv_command.specs.Views.{reason_view, request_view}
use Rattle.dsv_command.specs.Requests.{reason_of, request_of}
use Rattle.dsv_report.specs.Output.{output_of, certificate_written}
use Rattle.dsv_report.specs.Report.{status_of}
use Rattle.dsv_report.specs.declared.stop.Stop.TheVariants as stop
use Rattle.dsv_base.specs.Taking.{IsWritten, IfWhole}
use Rattle.dsv_cli.specs.Proposers.{AreSetsAsked, IsAsked, Wants, Decides, AsksSchurCohn, Seeks}
use Rattle.dsv_cli.specs.Stages.{IsSaidBeside}
use Rattle.dsv_cli.proofs.RunRows.{done_by, asks_why, asks_nothing}
use Rattle.dsv_cli.proofs.Unasked.{sets_unasked}
use Rattle.dsv_cli.proofs.command.run.Goals as goal

pub returns-in-Ok-Asks-clause-run : goal.returns-in-Ok-Asks-clause-run
returns-in-Ok-Asks-clause-run g c =
    let arguments = map string_bytes c.args.arguments.now in
    let e : Some (request_view c.in-Ok-Asks.request) ≡ request_of arguments = search rules in
    let none : None ≡ reason_of arguments = search rules in
    let found = c.request_outcome-found in
    let f = found.ensures in
    let put = c.put_found in
    let p = put.ensures in
    let heading = c.heading_of-heading.ensures in
    let from = g.K.Sink.seen c.args.sink.now in
    let to = g.K.Sink.seen put.new.sink in
    let before = g.F.Files.seen c.args.files.now in
    let after = g.F.Files.seen found.new.files in
    let written = subst (λ asked. IsWritten from to put.result.status (status_of found.result.outcome) (output_of asked found.result.lines found.result.words found.result.outcome)) heading p.written in
    let typed = subst (λ asked. IfWhole put.result.status (IfSome (certificate_written asked found.result.words found.result.outcome) IsTyped)) heading p.typed in
    let request = Some (request_view c.in-Ok-Asks.request) in
    let sets = c.args.proposers.now.sets.items in
    let left = found.new.proposers.sets.items in
    let AreAsked : (QuantisedView → Type 0) → Type 0 = λ becomes. AreSetsAsked (λ b. b.ptr) (λ b. (goal.InvariantProposer-dyn g (b.vtable, b.value)).last b.value) (λ b shape. (goal.InvariantProposer-dyn g (b.vtable, b.value)).to_come b.value shape) becomes sets left put.result.outcome in
    let beside : IsSaidBeside before after request put.result.outcome put.result.states put.result.words put.result.lines AreAsked = rw p.outcome (rw p.words (rw p.states (rw p.lines f.row))) in
    done_by before after from to arguments request None put.result AreAsked e none (record {
      answered = beside.0;
      said = beside.1;
      lines = beside.2;
      sets = beside.3;
      kept = f.kept;
      written = rw p.outcome (rw p.words (rw p.states (rw p.lines written)));
      typed = rw p.outcome (rw p.words (rw p.states typed));
    })

pub returns-in-Ok-Asks-clause-forms : goal.returns-in-Ok-Asks-clause-forms
returns-in-Ok-Asks-clause-forms g c =
    let e : Some (request_view c.in-Ok-Asks.request) ≡ request_of (map string_bytes c.args.arguments.now) = search rules in
    let found = c.request_outcome-found in
    rw c.put_found.ensures.outcome (subst
    (λ request. IsAsked (λ b. b.ptr) (λ b. (goal.FormProposer-dyn g (b.vtable, b.value)).last b.value) (λ b cs. (goal.FormProposer-dyn g (b.vtable, b.value)).sure b.value cs) (λ b cs. (goal.FormProposer-dyn g (b.vtable, b.value)).to_come b.value cs)
    (Wants AsksSchurCohn request) c.args.proposers.now.forms.items found.new.proposers.forms.items found.result.outcome)
    e found.ensures.forms)

pub returns-in-Ok-Asks-clause-unneeded_sets : goal.returns-in-Ok-Asks-clause-unneeded_sets
returns-in-Ok-Asks-clause-unneeded_sets g c =
    let e : Some (request_view c.in-Ok-Asks.request) ≡ request_of (map string_bytes c.args.arguments.now) = search rules in
    let found = c.request_outcome-found in
    subst (λ request. (Wants Seeks request → ⊥) → found.new.proposers.sets.items ≡ c.args.proposers.now.sets.items) e found.ensures.unneeded_sets

pub returns-in-Ok-Asks-clause-unneeded_forms : goal.returns-in-Ok-Asks-clause-unneeded_forms
returns-in-Ok-Asks-clause-unneeded_forms g c =
    let e : Some (request_view c.in-Ok-Asks.request) ≡ request_of (map string_bytes c.args.arguments.now) = search rules in
    let found = c.request_outcome-found in
    subst (λ request. (Wants Decides request → ⊥) → found.new.proposers.forms.items ≡ c.args.proposers.now.forms.items) e found.ensures.unneeded_forms

pub returns-in-Ok-Explains-clause-run : goal.returns-in-Ok-Explains-clause-run
returns-in-Ok-Explains-clause-run g c =
    let arguments = map string_bytes c.args.arguments.now in
    let e : None ≡ request_of arguments = search rules in
    let n : Some (reason_view c.in-Ok-Explains.reason) ≡ reason_of arguments = search rules in
    let p = c.put_explained.ensures in
    let sets = c.args.proposers.now.sets.items in
    let found = c.put_explained.result in
    asks_why (g.F.Files.seen c.args.files.now) (g.K.Sink.seen c.args.sink.now) (g.K.Sink.seen c.put_explained.new.sink) arguments (reason_view c.in-Ok-Explains.reason) found (λ becomes. AreSetsAsked (λ b. b.ptr) (λ b. (goal.InvariantProposer-dyn g (b.vtable, b.value)).last b.value) (λ b shape. (goal.InvariantProposer-dyn g (b.vtable, b.value)).to_come b.value shape) becomes sets sets found.outcome)
    e n p.outcome p.words p.states p.lines p.written (rw p.outcome (sets_unasked (λ b. b.ptr) (λ b. (goal.InvariantProposer-dyn g (b.vtable, b.value)).last b.value) (λ b shape. (goal.InvariantProposer-dyn g (b.vtable, b.value)).to_come b.value shape) (λ q. ⊥) sets (Err stop.Usage) tt))

pub returns-in-Ok-AsksNothing-clause-run : goal.returns-in-Ok-AsksNothing-clause-run
returns-in-Ok-AsksNothing-clause-run g c =
    let arguments = map string_bytes c.args.arguments.now in
    let e : None ≡ request_of arguments = search rules in
    let n : None ≡ reason_of arguments = search rules in
    let p = c.put_refusal.ensures in
    let sets = c.args.proposers.now.sets.items in
    let found = c.put_refusal.result in
    asks_nothing (g.F.Files.seen c.args.files.now) (g.K.Sink.seen c.args.sink.now) (g.K.Sink.seen c.put_refusal.new.sink) arguments found (λ becomes. AreSetsAsked (λ b. b.ptr) (λ b. (goal.InvariantProposer-dyn g (b.vtable, b.value)).last b.value) (λ b shape. (goal.InvariantProposer-dyn g (b.vtable, b.value)).to_come b.value shape) becomes sets sets found.outcome)
    e n p.outcome p.words p.states p.lines p.written (rw p.outcome (sets_unasked (λ b. b.ptr) (λ b. (goal.InvariantProposer-dyn g (b.vtable, b.value)).last b.value) (λ b shape. (goal.InvariantProposer-dyn g (b.vtable, b.value)).to_come b.value shape) (λ q. ⊥) sets (Err stop.Usage) tt))
