use Rattle.std.proofs.Common.{◌++◌}
use Rattle.dsv_base.proofs.TakingLemmas.{writes_after, writes_cut}
use Rattle.dsv_ctext.specs.Plans.{init_line}
use Rattle.dsv_ctext.specs.ProgramTexts.{lines_from, init_head, init_tail}
use Rattle.dsv_ctext.proofs.FitLines.{init_written_as}
use Rattle.dsv_ctext.proofs.lines.put_init.Goals as goal

pub returns-in_err-put_init_head : goal.returns-in_err-put_init_head
returns-in_err-put_init_head g c = rw (init_written_as c.args.names.now c.args.net.now c.registers-many.result c.registers-many.ensures) (writes_cut {x = (init_head c.args.names.now c.registers-many.result)} (((lines_from (init_line c.args.names.now) 0 c.registers-many.result)) ++ (init_tail)) c.from_residual.ensures.0 c.in_err-put_init_head.ensures.cut)

pub returns-in_err-put_zeros : goal.returns-in_err-put_zeros
returns-in_err-put_zeros g c = rw (init_written_as c.args.names.now c.args.net.now c.registers-many.result c.registers-many.ensures) (writes_after {x = (init_head c.args.names.now c.registers-many.result)} {y = ((lines_from (init_line c.args.names.now) 0 c.registers-many.result)) ++ (init_tail)} c.in_ok-put_init_head.ensures.whole (writes_cut {x = (lines_from (init_line c.args.names.now) 0 c.registers-many.result)} (init_tail) c.from_residual-in_err-put_zeros.ensures.0 c.in_err-put_zeros.ensures.cut))

pub returns : goal.returns
returns g c = rw (init_written_as c.args.names.now c.args.net.now c.registers-many.result c.registers-many.ensures) (writes_after {x = (init_head c.args.names.now c.registers-many.result)} {y = ((lines_from (init_line c.args.names.now) 0 c.registers-many.result)) ++ (init_tail)} c.in_ok-put_init_head.ensures.whole (writes_after {x = (lines_from (init_line c.args.names.now) 0 c.registers-many.result)} {y = init_tail} c.in_ok-put_zeros.ensures.whole (c.put_all.ensures)))
