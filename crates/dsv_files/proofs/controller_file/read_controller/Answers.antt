use Rattle.std.proofs.Common.{◌≡◌, rules, subst}
use Rattle.std.specs.Prelude.{Err}
use Rattle.dsv_reader.specs.Texts.{IsTextOf}
use Rattle.dsv_files.proofs.FileBytes.{none_of_controller, controller_faulty, text_fits}
use Rattle.dsv_files.proofs.LoggedDigests.{logged_one}
use Rattle.dsv_files.specs.Files.{a_controller}
use Rattle.dsv_files.proofs.controller_file.read_controller.Goals as goal

pub returns-in_err-bytes-clause-unread : goal.returns-in_err-bytes-clause-unread
returns-in_err-bytes-clause-unread g c =
    let why = c.in_err-bytes.field-0.0 in
    let is : c.from_residual.result ≡ Err why = search rules in
    rw is (none_of_controller (g.F.Files.seen c.args.files.now) (g.F.Files.seen c.read_bytes.new.files) c.args.name.now c.args.which why c.requires c.in_err-bytes.ensures.unread)

pub returns-clause-unread : goal.returns-clause-unread
returns-clause-unread g c =
    rw c.of_file.ensures (controller_faulty (g.F.Files.seen c.args.files.now) (g.F.Files.seen c.read_bytes.new.files) c.args.name.now c.in_ok-bytes.bytes c.args.which c.in-Err.refusal c.requires c.in_ok-bytes.ensures.whole c.in_ok-bytes.ensures.fits
    (rw c.as_slice.ensures at c.in-Err.ensures.value))

pub returns-in-Ok-clause-controller : goal.returns-in-Ok-clause-controller
returns-in-Ok-clause-controller g c =
    let controller = c.in-Ok.controller in
    (c.in_ok-bytes.bytes, c.in_ok-bytes.ensures.whole, (text_fits c.args.which c.requires c.in_ok-bytes.bytes c.in_ok-bytes.ensures.fits, subst (λ bytes. IsTextOf bytes controller) c.as_slice.ensures c.in-Ok.ensures.text))

pub returns-in-Ok-clause-digest : goal.returns-in-Ok-clause-digest
returns-in-Ok-clause-digest g c =
    let controller = c.in-Ok.controller in
    logged_one (g.F.Files.seen c.args.files.now) a_controller c.args.name.now c.in_ok-bytes.bytes controller c.args.digests.now c.log_titled.new.digests c.in_ok-bytes.ensures.whole
    (text_fits c.args.which c.requires c.in_ok-bytes.bytes c.in_ok-bytes.ensures.fits) (subst (λ bytes. IsTextOf bytes controller) c.as_slice.ensures c.in-Ok.ensures.text)
    (rw (c.as_slice-in-Ok-2.ensures, rw c.as_slice-in-Ok.ensures at c.in_ok-title-in-Ok.ensures) at c.in_ok-log_titled-in-Ok.ensures)
