use Rattle.std.proofs.Common.{◌≡◌, ◌∙◌, ap, sym, true}
use Rattle.dsv_command.specs.Table.{decides}
use Rattle.dsv_command.specs.Views.{task_view}
use Rattle.dsv_cli.specs.Words.{of_words}
use Rattle.dsv_cli.specs.Proposers.{AsksSchurCohn}
use Rattle.dsv_cli.specs.Stages.{IsAlone, texts_in, words_in}
use Rattle.dsv_cli.proofs.Unasked.{unasked, unasked_for_sets, own_for, sets_asked_for, sets_unasked, sets_unasked_for_roots, plain_places}
use Rattle.dsv_cli.proofs.jobs.question_outcome.Goals as goal

-- ---- properties of roots of a controller
pub returns-in-Decide-clause-forms : goal.returns-in-Decide-clause-forms
returns-in-Decide-clause-forms g c =
    own_for (λ b. b.ptr) (λ b. (goal.FormProposer-dyn g (b.vtable, b.value)).last b.value) (λ b cs. (goal.FormProposer-dyn g (b.vtable, b.value)).sure b.value cs) (λ b cs. (goal.FormProposer-dyn g (b.vtable, b.value)).to_come b.value cs)
    (c.in-Decide.question.schur_cohn ≡ true) (IsAlone (texts_in c.args.subject) × AsksSchurCohn (task_view c.args.task.now)) c.args.proposers.now.forms.items c.roots_answer.new.forms.items c.roots_answer.result
    (λ e. (rw c.in-Controller.is tt, (c.in-Decide.question.property, ap task_view c.in-Decide.is ∙ ap (decides c.in-Decide.question.property) e))) c.roots_answer.ensures.proposers

pub returns-in-Decide-clause-sets : goal.returns-in-Decide-clause-sets
returns-in-Decide-clause-sets g c =
    sets_unasked_for_roots (λ b. b.ptr) (λ b. (goal.InvariantProposer-dyn g (b.vtable, b.value)).last b.value) (λ b shape. (goal.InvariantProposer-dyn g (b.vtable, b.value)).to_come b.value shape)
    (λ w. words_in c.args.subject ≡ of_words w) c.args.proposers.now.sets.items c.in-Decide.question.property c.in-Decide.question.schur_cohn c.in-Controller.quantised c.roots_answer.result c.roots_answer.ensures.property

pub returns-in-Decide-clause-unneeded_forms : goal.returns-in-Decide-clause-unneeded_forms
returns-in-Decide-clause-unneeded_forms g c = λ no. absurd (no (rw c.in-Controller.is tt, (c.in-Decide.question.property, c.in-Decide.question.schur_cohn, ap task_view c.in-Decide.is)))

-- ---- its runs of any length
pub returns-in-SeekSet-clause-sets : goal.returns-in-SeekSet-clause-sets
returns-in-SeekSet-clause-sets g c =
    sets_asked_for (λ b. b.ptr) (λ b. (goal.InvariantProposer-dyn g (b.vtable, b.value)).last b.value) (λ b shape. (goal.InvariantProposer-dyn g (b.vtable, b.value)).to_come b.value shape)
    (λ w. w ≡ c.in-Controller.quantised) (λ w. words_in c.args.subject ≡ of_words w) c.args.proposers.now.sets.items c.sets_answer.new.sets.items c.sets_answer.result
    (λ w e. ap words_in c.in-Controller.is ∙ ap of_words (sym e)) c.sets_answer.ensures.proposers

pub returns-in-SeekSet-clause-forms : goal.returns-in-SeekSet-clause-forms
returns-in-SeekSet-clause-forms g c =
    unasked_for_sets (λ b. b.ptr) (λ b. (goal.FormProposer-dyn g (b.vtable, b.value)).last b.value) (λ b cs. (goal.FormProposer-dyn g (b.vtable, b.value)).sure b.value cs) (λ b cs. (goal.FormProposer-dyn g (b.vtable, b.value)).to_come b.value cs)
    (IsAlone (texts_in c.args.subject) × AsksSchurCohn (task_view c.args.task.now)) c.args.proposers.now.forms.items c.in-SeekSet.budget.conflicts c.in-Controller.quantised c.sets_answer.result c.sets_answer.ensures.sets

pub returns-in-SeekSet-clause-unneeded_sets : goal.returns-in-SeekSet-clause-unneeded_sets
returns-in-SeekSet-clause-unneeded_sets g c = λ no. absurd (no (rw c.in-Controller.is tt, (c.in-SeekSet.budget.conflicts, ap task_view c.in-SeekSet.is)))

-- ---- its tasks that need no proposer
pub returns-in_default-task-clause-places : goal.returns-in_default-task-clause-places
returns-in_default-task-clause-places g c = plain_places c.controller_answer.result c.controller_answer.ensures.plain

pub returns-in_default-task-clause-sets : goal.returns-in_default-task-clause-sets
returns-in_default-task-clause-sets g c =
    sets_unasked (λ b. b.ptr) (λ b. (goal.InvariantProposer-dyn g (b.vtable, b.value)).last b.value) (λ b shape. (goal.InvariantProposer-dyn g (b.vtable, b.value)).to_come b.value shape)
    (λ w. words_in c.args.subject ≡ of_words w) c.args.proposers.now.sets.items c.controller_answer.result c.controller_answer.ensures.plain

pub returns-in_default-task-clause-forms : goal.returns-in_default-task-clause-forms
returns-in_default-task-clause-forms g c =
    unasked (λ b. b.ptr) (λ b. (goal.FormProposer-dyn g (b.vtable, b.value)).last b.value) (λ b cs. (goal.FormProposer-dyn g (b.vtable, b.value)).sure b.value cs) (λ b cs. (goal.FormProposer-dyn g (b.vtable, b.value)).to_come b.value cs)
    (IsAlone (texts_in c.args.subject) × AsksSchurCohn (task_view c.args.task.now)) c.args.proposers.now.forms.items c.controller_answer.result c.controller_answer.ensures.plain

-- ---- all else
pub returns-in_default-clause-places : goal.returns-in_default-clause-places
returns-in_default-clause-places g c = plain_places c.other_outcome.result c.other_outcome.ensures.plain

pub returns-in_default-clause-sets : goal.returns-in_default-clause-sets
returns-in_default-clause-sets g c =
    sets_unasked (λ b. b.ptr) (λ b. (goal.InvariantProposer-dyn g (b.vtable, b.value)).last b.value) (λ b shape. (goal.InvariantProposer-dyn g (b.vtable, b.value)).to_come b.value shape)
    (λ w. words_in c.args.subject ≡ of_words w) c.args.proposers.now.sets.items c.other_outcome.result c.other_outcome.ensures.plain

pub returns-in_default-clause-forms : goal.returns-in_default-clause-forms
returns-in_default-clause-forms g c =
    unasked (λ b. b.ptr) (λ b. (goal.FormProposer-dyn g (b.vtable, b.value)).last b.value) (λ b cs. (goal.FormProposer-dyn g (b.vtable, b.value)).sure b.value cs) (λ b cs. (goal.FormProposer-dyn g (b.vtable, b.value)).to_come b.value cs)
    (IsAlone (texts_in c.args.subject) × AsksSchurCohn (task_view c.args.task.now)) c.args.proposers.now.forms.items c.other_outcome.result c.other_outcome.ensures.plain
