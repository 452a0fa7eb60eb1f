use Rattle.dsv_command.specs.Views.{task_view}
use Rattle.dsv_command.proofs.OwnOptions.{own_by}
use Rattle.dsv_command.proofs.finding.check_own.Goals as goal

pub returns : goal.returns
returns c = own_by c.args.arguments.now (task_view c.args.task.now) _ _ _ _ _ c.unless_given.ensures c.task_part.ensures c.first_other-other.ensures c.task_options.ensures c.all_task_options.ensures
