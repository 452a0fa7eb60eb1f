use Rattle.std.proofs.Common.{◌≡◌}
use Rattle.std.specs.Prelude.{Ok}
use Rattle.dsv_command.specs.Views.{task_view}
use Rattle.dsv_report.specs.declared.answers.Answer.TheVariants as answer
use Rattle.dsv_cli.specs.Proposers.{AsksSchurCohn}
use Rattle.dsv_cli.specs.Stages.{IsAlone, texts_in, words_in}
use Rattle.dsv_cli.specs.Words.{of_words}
use Rattle.dsv_cli.proofs.Unasked.{unasked, sets_unasked}
use Rattle.dsv_cli.proofs.jobs.task_outcome.Goals as goal

pub returns-in-TellWords-clause-sets : goal.returns-in-TellWords-clause-sets
returns-in-TellWords-clause-sets g c =
    sets_unasked (λ b. b.ptr) (λ b. (goal.InvariantProposer-dyn g (b.vtable, b.value)).last b.value) (λ b shape. (goal.InvariantProposer-dyn g (b.vtable, b.value)).to_come b.value shape)
    (λ w. words_in c.args.subject ≡ of_words w) c.args.proposers.now.sets.items (Ok answer.Words) tt

pub returns-in-TellWords-clause-forms : goal.returns-in-TellWords-clause-forms
returns-in-TellWords-clause-forms g c =
    unasked (λ b. b.ptr) (λ b. (goal.FormProposer-dyn g (b.vtable, b.value)).last b.value) (λ b cs. (goal.FormProposer-dyn g (b.vtable, b.value)).sure b.value cs) (λ b cs. (goal.FormProposer-dyn g (b.vtable, b.value)).to_come b.value cs)
    (IsAlone (texts_in c.args.subject) × AsksSchurCohn (task_view c.args.task.now)) c.args.proposers.now.forms.items (Ok answer.Words) tt
