use Rattle.std.proofs.Common.{◌≡◌, rules, sym, inr}
use Rattle.std.specs.Prelude.{Err}
use Rattle.dsv_report.specs.declared.stop.Stop.TheVariants as stop
use Rattle.dsv_files.proofs.LoggedDigests.{logged_one}
use Rattle.dsv_files.specs.Files.{an_ellipsoid}
use Rattle.dsv_files.proofs.evidence.read_offer.Goals as goal

pub returns-in_err-offer-clause-unread : goal.returns-in_err-offer-clause-unread
returns-in_err-offer-clause-unread g c =
    let r = c.in_err-offer.field-0.0 in
    let is : c.from_residual-in_err-offer.result ≡ Err (stop.EllipsoidText r) = search rules in
    rw is (inr (c.in_ok-bytes.bytes, c.in_ok-bytes.ensures.whole, (c.in_ok-bytes.ensures.fits, sym (rw c.as_slice.ensures at c.in_err-offer.ensures.answer))))

pub returns-clause-offered : goal.returns-clause-offered
returns-clause-offered g c = (
  c.in_ok-bytes.bytes,
  c.in_ok-bytes.ensures.whole,
  (c.in_ok-bytes.ensures.fits, sym (rw c.as_slice.ensures at c.in_ok-offer.ensures.answer)),
)

pub returns-clause-digest : goal.returns-clause-digest
returns-clause-digest g c =
    logged_one (g.F.Files.seen c.args.files.now) an_ellipsoid c.args.name.now c.in_ok-bytes.bytes c.in_ok-offer.offer c.args.digests.now c.log_digest.new.digests c.in_ok-bytes.ensures.whole c.in_ok-bytes.ensures.fits
    (sym (rw c.as_slice.ensures at c.in_ok-offer.ensures.answer)) (rw c.as_slice-2.ensures at c.in_ok-log_digest.ensures)
