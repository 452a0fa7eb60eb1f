use Rattle.std.proofs.Common.{◌≡◌, rules}
use Rattle.std.specs.Prelude.{Err}
use Rattle.dsv_command.specs.Views.{task_view}
use Rattle.dsv_files.specs.Views.{evidence_view, texts_view}
use Rattle.dsv_cli.proofs.Stages.{lacks_evidence, lacks_words}
use Rattle.dsv_cli.proofs.jobs.ready_for.Goals as goal

pub returns-in_err-evidence-clause-unready : goal.returns-in_err-evidence-clause-unready
returns-in_err-evidence-clause-unready g c =
    let why = c.in_err-evidence.field-0.0 in
    let is : c.from_residual.result ≡ Err why = search rules in
    rw is (lacks_evidence (g.F.Files.seen c.args.files.now) (g.F.Files.seen c.read_evidence.new.files) (texts_view c.args.texts.now) (task_view c.args.job.now.task) c.args.job.now.design why c.in_err-evidence.ensures.unread)

pub returns-in_err-subject-clause-unready : goal.returns-in_err-subject-clause-unready
returns-in_err-subject-clause-unready g c =
    let why = c.in_err-subject.field-0.0 in
    let is : c.from_residual-in_err-subject.result ≡ Err why = search rules in
    rw is (lacks_words (g.F.Files.seen c.args.files.now) (g.F.Files.seen c.read_evidence.new.files) (texts_view c.args.texts.now) (task_view c.args.job.now.task) c.args.job.now.design (evidence_view c.in_ok-evidence.evidence) why c.in_ok-evidence.ensures.has
    c.in_err-subject.ensures.refused)
