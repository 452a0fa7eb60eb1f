use Rattle.std.proofs.Common.{length, ap, ◌∙◌}
use Rattle.dsv_command.specs.Views.{task_view}
use Rattle.dsv_files.specs.Views.{evidence_view}
use Rattle.dsv_code.proofs.Members.{controller-many, cascade-many, state-many}
use Rattle.dsv_cli.specs.Words.{of_words, of_series, of_state_words}
use Rattle.dsv_cli.proofs.Emissions.{emitted_done}
use Rattle.dsv_cli.proofs.emission.emission_outcome.Goals as goal

pub emission-requires-clause-named : goal.emission-requires-clause-named
emission-requires-clause-named c = ap length c.in_ok-notes-in-Controller.ensures.members ∙ controller-many c.in-Controller.quantised

pub emission-requires-in-Cascade-clause-named : goal.emission-requires-in-Cascade-clause-named
emission-requires-in-Cascade-clause-named c = ap length c.in_ok-notes-in-Cascade.ensures.members ∙ cascade-many c.in-Cascade.cascade

pub emission-requires-in-States-clause-named : goal.emission-requires-in-States-clause-named
emission-requires-in-States-clause-named c = ap length c.in_ok-notes-in-States.ensures.members ∙ state-many c.in-States.system

pub returns-in_ok-notes-in-Controller-clause-task : goal.returns-in_ok-notes-in-Controller-clause-task
returns-in_ok-notes-in-Controller-clause-task c =
    let n = c.in_ok-notes-in-Controller in
    rw c.in-Controller.is (emitted_done (task_view c.args.task.now) (evidence_view c.args.evidence.now) _ (of_words c.in-Controller.quantised) n.notes.members n.notes.origin c.emission.result n.ensures.members n.ensures.origin c.emission.ensures.code)

pub returns-in_ok-notes-in-Cascade-clause-task : goal.returns-in_ok-notes-in-Cascade-clause-task
returns-in_ok-notes-in-Cascade-clause-task c =
    let n = c.in_ok-notes-in-Cascade in
    rw c.in-Cascade.is (emitted_done (task_view c.args.task.now) (evidence_view c.args.evidence.now) _ (of_series c.in-Cascade.cascade) n.notes.members n.notes.origin c.emission-in-Cascade.result n.ensures.members n.ensures.origin c.emission-in-Cascade.ensures.code)

pub returns-in_ok-notes-in-States-clause-task : goal.returns-in_ok-notes-in-States-clause-task
returns-in_ok-notes-in-States-clause-task c =
    let n = c.in_ok-notes-in-States in
    rw c.in-States.is (emitted_done (task_view c.args.task.now) (evidence_view c.args.evidence.now) _ (of_state_words c.in-States.system) n.notes.members n.notes.origin c.emission-in-States.result n.ensures.members n.ensures.origin c.emission-in-States.ensures.code)
