use Rattle.std.proofs.Common.{◌≡◌, sym, ◌∙◌, rules, inr}
use Rattle.std.specs.Prelude.{Err}
use Rattle.dsv_report.specs.declared.stop.Stop.TheVariants as stop
use Rattle.dsv_state_file.proofs.ReadFiles.{state_read}
use Rattle.dsv_files.proofs.LoggedDigests.{logged_one}
use Rattle.dsv_files.specs.Files.{a_state_controller}
use Rattle.dsv_files.proofs.state_file.read_state_file.Goals as goal

pub returns-in_err-file-clause-unread : goal.returns-in_err-file-clause-unread
returns-in_err-file-clause-unread g c =
    let r = c.in_err-file.field-0.0 in
    let is : c.from_residual-in_err-file.result ≡ Err (stop.StateRefused r) = search rules in
    rw is (inr (c.in_ok-bytes.bytes, c.in_ok-bytes.ensures.whole, (c.in_ok-bytes.ensures.fits, sym (rw c.as_slice.ensures at c.read_state.ensures.exact) ∙ c.in_err-file.was)))

pub returns-clause-controller : goal.returns-clause-controller
returns-clause-controller g c = (
  c.in_ok-bytes.bytes,
  c.in_ok-bytes.ensures.whole,
  (c.in_ok-bytes.ensures.fits, state_read c.in_ok-bytes.bytes c.in_ok-file.file (sym (rw c.as_slice.ensures at c.read_state.ensures.exact) ∙ c.in_ok-file.was)),
)

pub returns-clause-digest : goal.returns-clause-digest
returns-clause-digest g c =
    let file = c.in_ok-file.file in
    logged_one (g.F.Files.seen c.args.files.now) a_state_controller c.args.name.now c.in_ok-bytes.bytes file c.args.digests.now c.log_digest.new.digests c.in_ok-bytes.ensures.whole c.in_ok-bytes.ensures.fits
    (state_read c.in_ok-bytes.bytes file (sym (rw c.as_slice.ensures at c.read_state.ensures.exact) ∙ c.in_ok-file.was)) (rw c.as_slice-2.ensures at c.in_ok-log_digest.ensures)
