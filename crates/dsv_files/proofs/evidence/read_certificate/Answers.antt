use Rattle.std.proofs.Common.{◌≡◌, rules}
use Rattle.std.specs.Prelude.{Err}
use Rattle.dsv_report.specs.Stops.{stop_of_text}
use Rattle.dsv_files.proofs.FileBytes.{certificate_faulty}
use Rattle.dsv_files.proofs.LoggedDigests.{logged_one}
use Rattle.dsv_files.specs.Files.{a_certificate}
use Rattle.dsv_files.proofs.evidence.read_certificate.Goals as goal

pub returns-in_err-certificate-clause-unread : goal.returns-in_err-certificate-clause-unread
returns-in_err-certificate-clause-unread g c =
    let old = g.F.Files.seen c.args.files.now in
    let r = c.in_err-certificate.field-0.0 in
    let is : c.from_residual-in_err-certificate.result ≡ Err (stop_of_text r) = search rules in
    rw is (certificate_faulty old (g.F.Files.seen c.read_bytes.new.files) c.args.name.now c.in_ok-bytes.bytes r c.in_ok-bytes.ensures.whole c.in_ok-bytes.ensures.fits
    (rw c.as_slice.ensures at c.in_err-certificate.ensures.answer))

pub returns-clause-spelled : goal.returns-clause-spelled
returns-clause-spelled g c = (
  c.in_ok-bytes.bytes,
  c.in_ok-bytes.ensures.whole,
  (c.in_ok-bytes.ensures.fits, rw c.as_slice.ensures at c.in_ok-certificate.ensures.answer),
)

pub returns-clause-digest : goal.returns-clause-digest
returns-clause-digest g c =
    logged_one (g.F.Files.seen c.args.files.now) a_certificate c.args.name.now c.in_ok-bytes.bytes c.in_ok-certificate.certificate c.args.digests.now c.log_digest.new.digests c.in_ok-bytes.ensures.whole c.in_ok-bytes.ensures.fits
    (rw c.as_slice.ensures at c.in_ok-certificate.ensures.answer) (rw c.as_slice-2.ensures at c.in_ok-log_digest.ensures)
