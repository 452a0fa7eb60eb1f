use Rattle.std.proofs.Common.{rules, ◌≡◌, [], Some, Ok, refl, subst, sym}
use Rattle.dsv_command.specs.Views.{request_view}
use Rattle.dsv_cli.specs.Proposers.{AreSetsAsked, Wants, AsksSchurCohn}
use Rattle.dsv_cli.specs.Stages.{IsSaidBeside}
use Rattle.dsv_cli.proofs.Stages.{tally_lines}
use Rattle.dsv_cli.proofs.Unasked.{unasked, sets_unasked, plain_places}
use Rattle.dsv_cli.proofs.requests.request_outcome.Goals as goal

-- ---- a job
pub returns-in-Do-clause-row : goal.returns-in-Do-clause-row
returns-in-Do-clause-row g c = rw c.in-Do.is c.job_outcome.ensures.row

pub returns-in-Do-clause-forms : goal.returns-in-Do-clause-forms
returns-in-Do-clause-forms g c = rw c.in-Do.is c.job_outcome.ensures.forms

pub returns-in-Do-clause-unneeded_sets : goal.returns-in-Do-clause-unneeded_sets
returns-in-Do-clause-unneeded_sets g c = rw c.in-Do.is c.job_outcome.ensures.unneeded_sets

pub returns-in-Do-clause-unneeded_forms : goal.returns-in-Do-clause-unneeded_forms
returns-in-Do-clause-unneeded_forms g c = rw c.in-Do.is c.job_outcome.ensures.unneeded_forms

-- ---- the other requests ask no proposer
pub returns-in-Ok-clause-row : goal.returns-in-Ok-clause-row
returns-in-Ok-clause-row g c =
    let old = g.F.Files.seen c.args.files.now in
    let new = g.F.Files.seen c.check_outcome.new.files in
    let passed = c.in-Ok.field-0 in
    let found = c.unsaid.result in
    let sets = c.args.proposers.now.sets.items in
    subst (λ o. IsSaidBeside old new (Some (request_view c.args.request.now)) o found.states found.words found.lines (λ becomes. AreSetsAsked (λ b. b.ptr) (λ b. (goal.InvariantProposer-dyn g (b.vtable, b.value)).last b.value) (λ b shape. (goal.InvariantProposer-dyn g (b.vtable, b.value)).to_come b.value shape) becomes sets sets o)) (sym c.unsaid.ensures.outcome)
    (subst (λ lines. IsSaidBeside old new (Some (request_view c.args.request.now)) (Ok passed.answer) found.states found.words lines (λ becomes. AreSetsAsked (λ b. b.ptr) (λ b. (goal.InvariantProposer-dyn g (b.vtable, b.value)).last b.value) (λ b shape. (goal.InvariantProposer-dyn g (b.vtable, b.value)).to_come b.value shape) becomes sets sets (Ok passed.answer))) (sym c.unsaid.ensures.lines)
    (rw c.in-Check.is (c.in-Ok.ensures.row.0, (c.unsaid.ensures.states, c.unsaid.ensures.words), c.in-Ok.ensures.row.1, sets_unasked (λ b. b.ptr) (λ b. (goal.InvariantProposer-dyn g (b.vtable, b.value)).last b.value) (λ b shape. (goal.InvariantProposer-dyn g (b.vtable, b.value)).to_come b.value shape) (λ q. ⊥) sets (Ok passed.answer) c.in-Ok.ensures.plain)))

pub returns-in-Ok-clause-forms : goal.returns-in-Ok-clause-forms
returns-in-Ok-clause-forms g c = rw c.unsaid.ensures.outcome (unasked (λ b. b.ptr) (λ b. (goal.FormProposer-dyn g (b.vtable, b.value)).last b.value) (λ b cs. (goal.FormProposer-dyn g (b.vtable, b.value)).sure b.value cs) (λ b cs. (goal.FormProposer-dyn g (b.vtable, b.value)).to_come b.value cs)
    (Wants AsksSchurCohn (Some (request_view c.args.request.now))) c.args.proposers.now.forms.items (Ok c.in-Ok.field-0.answer) c.in-Ok.ensures.plain)

pub returns-in-Generate-clause-row : goal.returns-in-Generate-clause-row
returns-in-Generate-clause-row g c =
    let old = g.F.Files.seen c.args.files.now in
    let found = c.unsaid-in-Generate.result in
    let none : found.lines ≡ [] = search rules in
    let sets = c.args.proposers.now.sets.items in
    subst (λ o. IsSaidBeside old old (Some (request_view c.args.request.now)) o found.states found.words found.lines (λ becomes. AreSetsAsked (λ b. b.ptr) (λ b. (goal.InvariantProposer-dyn g (b.vtable, b.value)).last b.value) (λ b shape. (goal.InvariantProposer-dyn g (b.vtable, b.value)).to_come b.value shape) becomes sets sets o)) (sym c.unsaid-in-Generate.ensures.outcome)
    (rw c.in-Generate.is ((c.generation_answer.ensures.found, refl), (c.unsaid-in-Generate.ensures.states, c.unsaid-in-Generate.ensures.words), tally_lines old old _ _ c.generation_answer.result (c.generation_answer.ensures.found, refl) found.lines none, sets_unasked (λ b. b.ptr) (λ b. (goal.InvariantProposer-dyn g (b.vtable, b.value)).last b.value) (λ b shape. (goal.InvariantProposer-dyn g (b.vtable, b.value)).to_come b.value shape) (λ q. ⊥) sets c.generation_answer.result c.generation_answer.ensures.plain))

pub returns-in-Generate-clause-places : goal.returns-in-Generate-clause-places
returns-in-Generate-clause-places g c = rw c.unsaid-in-Generate.ensures.outcome (plain_places c.generation_answer.result c.generation_answer.ensures.plain)

pub returns-in-Generate-clause-forms : goal.returns-in-Generate-clause-forms
returns-in-Generate-clause-forms g c = rw c.unsaid-in-Generate.ensures.outcome (unasked (λ b. b.ptr) (λ b. (goal.FormProposer-dyn g (b.vtable, b.value)).last b.value) (λ b cs. (goal.FormProposer-dyn g (b.vtable, b.value)).sure b.value cs) (λ b cs. (goal.FormProposer-dyn g (b.vtable, b.value)).to_come b.value cs)
    (Wants AsksSchurCohn (Some (request_view c.args.request.now))) c.args.proposers.now.forms.items c.generation_answer.result c.generation_answer.ensures.plain)
