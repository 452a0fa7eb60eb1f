use Rattle.std.proofs.Common.{◌++◌}
use Rattle.std.specs.Fmt.{signed_decimal}
use Rattle.dsv_base.specs.Text.{spaced_text}
use Rattle.dsv_base.proofs.TakingLemmas.{writes_after, writes_cut}
use Rattle.dsv_certfile.proofs.ellipsoid_writer.put_first_numbers.Goals as goal

pub returns-in_err-put_factor-clause-text : goal.returns-in_err-put_factor-clause-text
returns-in_err-put_factor-clause-text g c =
    let o = c.args.offer.now in
    writes_cut (spaced_text signed_decimal o.nu ++ spaced_text signed_decimal o.bound) c.from_residual.ensures.0 c.in_err-put_factor.ensures.text.cut

pub returns-in_err-put_factor-2-clause-text : goal.returns-in_err-put_factor-2-clause-text
returns-in_err-put_factor-2-clause-text g c =
    writes_after c.in_ok-put_factor.ensures.text.whole
    (writes_cut (spaced_text signed_decimal c.args.offer.now.bound) c.from_residual-in_err-put_factor-2.ensures.0 c.in_err-put_factor-2.ensures.text.cut)

pub returns-clause-text : goal.returns-clause-text
returns-clause-text g c =
    writes_after c.in_ok-put_factor.ensures.text.whole (writes_after c.in_ok-put_factor-2.ensures.text.whole c.put_entry.ensures)
