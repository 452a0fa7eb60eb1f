use Rattle.std.proofs.Common.{◌++◌}
use Rattle.dsv_base.proofs.TakingLemmas.{writes_after, writes_cut}
use Rattle.dsv_command.specs.Views.{task_view}
use Rattle.dsv_files.specs.Digests.{digest_view}
use Rattle.dsv_report.proofs.NumberedLines.{flat_map_of_map}
use Rattle.dsv_cli.specs.Stages.{texts_in, words_in}
use Rattle.dsv_cli.specs.Told.{digest_text, timing_line, word_lines}
use Rattle.dsv_cli.proofs.told.put_told.Goals as goal

pub returns-in_err-put_files : goal.returns-in_err-put_files
returns-in_err-put_files g c =
    let subject = c.args.subject.now in
    rw (← flat_map_of_map digest_text digest_view c.args.digests.now)
    (writes_cut (word_lines (texts_in subject) (words_in subject) ++ timing_line (task_view c.args.task.now) (texts_in subject)) c.from_residual.ensures.0 c.in_err-put_files.ensures.cut)

pub returns : goal.returns
returns g c = rw (← flat_map_of_map digest_text digest_view c.args.digests.now) (writes_after c.in_ok-put_files.ensures.whole c.put_subject.ensures)
