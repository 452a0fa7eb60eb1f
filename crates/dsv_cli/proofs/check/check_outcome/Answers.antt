use Rattle.std.proofs.Common.{◌≡◌, rules, true, subst}
use Rattle.std.specs.Prelude.{Err}
use Rattle.dsv_command.specs.Table.{is_checked}
use Rattle.dsv_command.specs.Views.{files_view}
use Rattle.dsv_files.specs.Views.{texts_view}
use Rattle.dsv_files.proofs.LaterFiles.{kept_on}
use Rattle.dsv_cli.proofs.Stages.{kind_of_texts, no_checked_texts, no_certificate, passed_beside, row_of_refusal}
use Rattle.dsv_cli.proofs.ToldLines.{check_told}
use Rattle.dsv_cli.proofs.check.check_outcome.Goals as goal

pub returns-in_err-texts-clause-row : goal.returns-in_err-texts-clause-row
returns-in_err-texts-clause-row g c =
    let why = c.in_err-texts.field-0.0 in
    let is : c.from_residual.result ≡ Err why = search rules in
    rw is (no_checked_texts (g.F.Files.seen c.args.files.now) (g.F.Files.seen c.read_texts.new.files) (files_view c.args.named.now) c.args.certificate.now why c.in_err-texts.ensures.unread)

pub returns-in_err-certificate-clause-row : goal.returns-in_err-certificate-clause-row
returns-in_err-certificate-clause-row g c =
    let why = c.in_err-certificate.field-0.0 in
    let is : c.from_residual-in_err-certificate.result ≡ Err why = search rules in
    rw is (no_certificate (g.F.Files.seen c.args.files.now) (g.F.Files.seen c.read_texts.new.files) (g.F.Files.seen c.read_certificate.new.files) (files_view c.args.named.now) (texts_view c.in_ok-texts.texts) c.args.certificate.now why
    c.in_ok-texts.ensures.texts c.read_texts.ensures.kept c.in_ok-texts.ensures.came c.in_err-certificate.ensures.unread)

pub returns-in_err-certificate-clause-kept : goal.returns-in_err-certificate-clause-kept
returns-in_err-certificate-clause-kept g c = kept_on (g.F.Files.seen c.args.files.now) (g.F.Files.seen c.read_texts.new.files) (g.F.Files.seen c.read_certificate.new.files) c.read_texts.ensures.kept c.read_certificate.ensures.kept

pub returns-clause-kept : goal.returns-clause-kept
returns-clause-kept g c = kept_on (g.F.Files.seen c.args.files.now) (g.F.Files.seen c.read_texts.new.files) (g.F.Files.seen c.read_certificate.new.files) c.read_texts.ensures.kept c.read_certificate.ensures.kept

pub texts_check-requires : goal.texts_check-requires
texts_check-requires g c =
    subst (λ kind. is_checked kind ≡ true) (kind_of_texts (g.F.Files.seen c.args.files.now) (files_view c.args.named.now) (texts_view c.in_ok-texts.texts) c.in_ok-texts.ensures.texts) c.requires

pub accepted_lines-requires : goal.accepted_lines-requires
accepted_lines-requires g c = (c.in_ok-answer.answer, c.in_ok-answer.ensures.found)

pub returns-in_err-answer-clause-row : goal.returns-in_err-answer-clause-row
returns-in_err-answer-clause-row g c =
    let why = c.in_err-answer.field-0.0 in
    let is : c.from_residual-in_err-answer.result ≡ Err why = search rules in
    rw is (row_of_refusal (g.F.Files.seen c.args.files.now) (g.F.Files.seen c.read_texts.new.files) (g.F.Files.seen c.read_certificate.new.files) (files_view c.args.named.now) (texts_view c.in_ok-texts.texts) c.args.certificate.now
    c.in_ok-certificate.certificate why c.in_ok-texts.ensures.texts c.read_texts.ensures.kept c.in_ok-certificate.ensures.spelled c.in_err-answer.ensures.found)

pub returns-clause-row : goal.returns-clause-row
returns-clause-row g c =
    let old = g.F.Files.seen c.args.files.now in
    let then = g.F.Files.seen c.read_texts.new.files in
    let files = files_view c.args.named.now in
    let texts = texts_view c.in_ok-texts.texts in
    let cert = c.in_ok-certificate.certificate in
    let lines = c.in_ok-lines.lines in
    passed_beside old then (g.F.Files.seen c.read_certificate.new.files) files texts c.args.certificate.now cert c.args.worded (record { answer = c.in_ok-answer.answer; lines = lines }) c.in_ok-texts.ensures.texts c.read_texts.ensures.kept
    c.in_ok-certificate.ensures.spelled c.in_ok-answer.ensures.found
    (check_told old then files c.args.certificate.now c.args.worded texts cert lines c.read_texts.new.digests c.read_certificate.new.digests c.read_texts.ensures.kept
    (rw c.new-digests.ensures at c.in_ok-texts.ensures.digests) c.in_ok-certificate.ensures.digest (rw c.as_slice.ensures at c.in_ok-lines.ensures))
