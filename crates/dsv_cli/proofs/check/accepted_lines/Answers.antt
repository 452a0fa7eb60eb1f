use Rattle.std.proofs.Common.{map}
use Rattle.dsv_certfile.specs.Texts.{job_of}
use Rattle.dsv_files.specs.Digests.{digest_view}
use Rattle.dsv_files.specs.Views.{texts_view}
use Rattle.dsv_cli.specs.Stages.{texts_in, words_in}
use Rattle.dsv_cli.proofs.CheckedWords.{accepted_not_wordless}
use Rattle.dsv_cli.proofs.ToldLines.{accepted_told}
use Rattle.dsv_cli.proofs.check.accepted_lines.Goals as goal

pub unreachable-requires : goal.unreachable-requires
unreachable-requires c = accepted_not_wordless (texts_view c.args.texts.now) c.args.certificate.now c.requires.0 c.in-Err.field-0 c.requires.1 (rw c.job.ensures at c.in-Err.ensures.refused)

pub returns : goal.returns
returns c =
    let subject = c.in-Ok.subject in
    accepted_told c.told_lines.result c.args.worded (job_of c.args.certificate.now).design (map digest_view c.args.digests.now) (texts_view c.args.texts.now) (texts_in subject) (words_in subject) c.in-Ok.ensures.texts (rw c.job.ensures at c.in-Ok.ensures.words) c.told_lines.ensures
