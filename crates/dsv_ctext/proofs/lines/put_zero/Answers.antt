use Rattle.std.proofs.Common.{◌++◌}
use Rattle.std.proofs.Math.IntN.{pos}
use Rattle.std.specs.Fmt.{signed_decimal}
use Rattle.dsv_base.proofs.TakingLemmas.{writes_after, writes_cut}
use Rattle.dsv_ctext.specs.ProgramTexts.{store_head, line_end}
use Rattle.dsv_ctext.proofs.lines.put_zero.Goals as goal

pub returns-in_err-put_store_head : goal.returns-in_err-put_store_head
returns-in_err-put_store_head g c = writes_cut {x = (store_head c.args.names.now c.args.k)} (((signed_decimal (pos 0))) ++ (line_end)) c.from_residual.ensures.0 c.in_err-put_store_head.ensures.cut

pub returns-in_err-put_number : goal.returns-in_err-put_number
returns-in_err-put_number g c = writes_after {x = (store_head c.args.names.now c.args.k)} {y = ((signed_decimal (pos 0))) ++ (line_end)} c.in_ok-put_store_head.ensures.whole (writes_cut {x = (signed_decimal (pos 0))} (line_end) c.from_residual-in_err-put_number.ensures.0 c.in_err-put_number.ensures.cut)

pub returns : goal.returns
returns g c = writes_after {x = (store_head c.args.names.now c.args.k)} {y = ((signed_decimal (pos 0))) ++ (line_end)} c.in_ok-put_store_head.ensures.whole (writes_after {x = (signed_decimal (pos 0))} {y = line_end} c.in_ok-put_number.ensures.whole (c.put_all.ensures))
