use Rattle.std.specs.Fmt.{signed_decimal}
use Rattle.dsv_base.specs.Text.{spaced_text}
use Rattle.dsv_base.proofs.TakingLemmas.{writes_after, writes_cut}
use Rattle.dsv_certfile.proofs.ellipsoid_writer.put_term.Goals as goal

pub returns-in_err-put_piece-clause-text : goal.returns-in_err-put_piece-clause-text
returns-in_err-put_piece-clause-text g c =
    writes_cut (spaced_text signed_decimal c.args.number.now) c.from_residual.ensures.0 (rw c.text.ensures at c.in_err-put_piece.ensures.cut)

pub returns-clause-text : goal.returns-clause-text
returns-clause-text g c = writes_after (rw c.text.ensures at c.in_ok-put_piece.ensures.whole) c.put_factor.ensures.text
