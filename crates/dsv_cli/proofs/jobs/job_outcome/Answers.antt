use Rattle.std.proofs.Common.{◌≡◌, true, subst, sym, Some}
use Rattle.std.specs.Prelude.{Err}
use Rattle.dsv_command.specs.Table.{does, has_cell}
use Rattle.dsv_command.specs.Views.{files_view, job_view, task_view}
use Rattle.dsv_cli.specs.Proposers.{AreSetsAsked, AsksSchurCohn, Wants}
use Rattle.dsv_cli.specs.Stages.{IsAlone, IsSaidBeside, kind_in, words_in}
use Rattle.dsv_cli.specs.Told.{AreLinesOf}
use Rattle.dsv_files.specs.Views.{evidence_view, texts_view}
use Rattle.dsv_cli.proofs.Stages.{alone_kind, kind_of_texts, row_with, texts_beside, unread_beside, unready}
use Rattle.dsv_cli.proofs.ToldLines.{if_any, job_told}
use Rattle.dsv_cli.proofs.Unasked.{own_for, sets_unasked, unasked}
use Rattle.dsv_cli.proofs.jobs.job_outcome.Goals as goal

-- ---- a file isn't what it has to be
pub returns-in-Err-clause-row : goal.returns-in-Err-clause-row
returns-in-Err-clause-row g c =
    let old = g.F.Files.seen c.args.files.now in
    let new = g.F.Files.seen c.read_texts.new.files in
    let job = job_view c.args.job.now in
    let found = c.unsaid.result in
    let sets = c.args.proposers.now.sets.items in
    let why = c.in-Err.stop in
    subst (λ o. IsSaidBeside old new (Some (does job)) o found.states found.words found.lines (λ becomes. AreSetsAsked (λ b. b.ptr) (λ b. (goal.InvariantProposer-dyn g (b.vtable, b.value)).last b.value) (λ b shape. (goal.InvariantProposer-dyn g (b.vtable, b.value)).to_come b.value shape) becomes sets sets o)) (sym c.unsaid.ensures.outcome)
    (unread_beside old new job why found.states found.words found.lines (λ becomes. AreSetsAsked (λ b. b.ptr) (λ b. (goal.InvariantProposer-dyn g (b.vtable, b.value)).last b.value) (λ b shape. (goal.InvariantProposer-dyn g (b.vtable, b.value)).to_come b.value shape) becomes sets sets (Err why)) c.in-Err.ensures.unread (c.unsaid.ensures.states, c.unsaid.ensures.words)
    (sets_unasked (λ b. b.ptr) (λ b. (goal.InvariantProposer-dyn g (b.vtable, b.value)).last b.value) (λ b shape. (goal.InvariantProposer-dyn g (b.vtable, b.value)).to_come b.value shape) (λ q. ⊥) sets (Err why) tt))

-- ---- the task is done
pub task_outcome-requires-clause-cell : goal.task_outcome-requires-clause-cell
task_outcome-requires-clause-cell g c =
    let task = task_view c.args.job.now.task in
    subst (λ t. has_cell (kind_in t) task ≡ true) (sym c.in-Ok-ready_for.ensures.texts)
    (subst (λ kind. has_cell kind task ≡ true) (kind_of_texts (g.F.Files.seen c.args.files.now) (files_view c.args.job.now.files) (texts_view c.in-Ok.texts) c.in-Ok.ensures.texts) c.requires)

pub returns-in-Ok-ready_for-clause-row : goal.returns-in-Ok-ready_for-clause-row
returns-in-Ok-ready_for-clause-row g c =
    let old = g.F.Files.seen c.args.files.now in
    let then = g.F.Files.seen c.read_texts.new.files in
    let new = g.F.Files.seen c.ready_for.new.files in
    let job = job_view c.args.job.now in
    let came = texts_view c.in-Ok.texts in
    let ready = c.in-Ok-ready_for.field-0 in
    let known = c.in-Ok-ready_for.ensures in
    let words = words_in ready.subject in
    let found = c.task_outcome.result in
    let said = c.said-said.result in
    let sets = c.args.proposers.now.sets.items in
    let left = c.task_outcome.new.proposers.sets.items in
    let told = job_told old then job came words ready.lines c.read_texts.new.digests c.ready_for.new.digests c.read_texts.ensures.kept (rw c.new-digests.ensures at c.in-Ok.ensures.digests) known.digests known.words known.lines in
    texts_beside old then new job came found said.states said.words ready.lines (λ becomes. AreSetsAsked (λ b. b.ptr) (λ b. (goal.InvariantProposer-dyn g (b.vtable, b.value)).last b.value) (λ b shape. (goal.InvariantProposer-dyn g (b.vtable, b.value)).to_come b.value shape) becomes sets left found)
    c.in-Ok.ensures.texts c.read_texts.ensures.kept c.in-Ok.ensures.came c.said-said.ensures.said (if_any found (AreLinesOf old job came ready.lines) told)
    (row_with (λ b. b.ptr) (λ b. (goal.InvariantProposer-dyn g (b.vtable, b.value)).last b.value) (λ b shape. (goal.InvariantProposer-dyn g (b.vtable, b.value)).to_come b.value shape) sets left then new came job.task job.design found
    (evidence_view ready.evidence, known.evidence, words, known.words, rw known.texts at c.task_outcome.ensures.task) c.task_outcome.ensures.sets)

pub returns-in-Ok-ready_for-clause-forms : goal.returns-in-Ok-ready_for-clause-forms
returns-in-Ok-ready_for-clause-forms g c =
    let job = job_view c.args.job.now in
    let came = texts_view c.in-Ok.texts in
    own_for (λ b. b.ptr) (λ b. (goal.FormProposer-dyn g (b.vtable, b.value)).last b.value) (λ b cs. (goal.FormProposer-dyn g (b.vtable, b.value)).sure b.value cs) (λ b cs. (goal.FormProposer-dyn g (b.vtable, b.value)).to_come b.value cs)
    (IsAlone came × AsksSchurCohn job.task) (Wants AsksSchurCohn (Some (does job))) c.args.proposers.now.forms.items c.task_outcome.new.proposers.forms.items c.task_outcome.result
    (λ a. (alone_kind (g.F.Files.seen c.args.files.now) job.files came c.in-Ok.ensures.texts a.0, a.1)) (rw c.in-Ok-ready_for.ensures.texts at c.task_outcome.ensures.forms)

pub returns-in-Ok-ready_for-clause-unneeded_forms : goal.returns-in-Ok-ready_for-clause-unneeded_forms
returns-in-Ok-ready_for-clause-unneeded_forms g c = λ no.
    (rw c.in-Ok-ready_for.ensures.texts at c.task_outcome.ensures.unneeded_forms) (λ a. no (alone_kind (g.F.Files.seen c.args.files.now) (files_view c.args.job.now.files) (texts_view c.in-Ok.texts) c.in-Ok.ensures.texts a.0, a.1))

pub returns-in-Ok-ready_for-clause-unneeded_sets : goal.returns-in-Ok-ready_for-clause-unneeded_sets
returns-in-Ok-ready_for-clause-unneeded_sets g c = λ no.
    (rw c.in-Ok-ready_for.ensures.texts at c.task_outcome.ensures.unneeded_sets) (λ a. no (alone_kind (g.F.Files.seen c.args.files.now) (files_view c.args.job.now.files) (texts_view c.in-Ok.texts) c.in-Ok.ensures.texts a.0, a.1))

-- ---- there is no evidence, or there are no words
pub returns-clause-row : goal.returns-clause-row
returns-clause-row g c =
    let old = g.F.Files.seen c.args.files.now in
    let then = g.F.Files.seen c.read_texts.new.files in
    let new = g.F.Files.seen c.ready_for.new.files in
    let job = job_view c.args.job.now in
    let came = texts_view c.in-Ok.texts in
    let why = c.in-Err-ready_for.stop in
    let said = c.said-said.result in
    let sets = c.args.proposers.now.sets.items in
    texts_beside old then new job came (Err why) said.states said.words c.new-in-Err-ready_for.result (λ becomes. AreSetsAsked (λ b. b.ptr) (λ b. (goal.InvariantProposer-dyn g (b.vtable, b.value)).last b.value) (λ b shape. (goal.InvariantProposer-dyn g (b.vtable, b.value)).to_come b.value shape) becomes sets sets (Err why))
    c.in-Ok.ensures.texts c.read_texts.ensures.kept c.in-Ok.ensures.came c.said-said.ensures.said tt
    (unready then new came job.task job.design why c.in-Err-ready_for.ensures.unready, sets_unasked (λ b. b.ptr) (λ b. (goal.InvariantProposer-dyn g (b.vtable, b.value)).last b.value) (λ b shape. (goal.InvariantProposer-dyn g (b.vtable, b.value)).to_come b.value shape) (λ q. ⊥) sets (Err why) tt)

pub returns-clause-forms : goal.returns-clause-forms
returns-clause-forms g c = unasked (λ b. b.ptr) (λ b. (goal.FormProposer-dyn g (b.vtable, b.value)).last b.value) (λ b cs. (goal.FormProposer-dyn g (b.vtable, b.value)).sure b.value cs) (λ b cs. (goal.FormProposer-dyn g (b.vtable, b.value)).to_come b.value cs)
    (Wants AsksSchurCohn (Some (does (job_view c.args.job.now)))) c.args.proposers.now.forms.items (Err c.in-Err-ready_for.stop) tt
