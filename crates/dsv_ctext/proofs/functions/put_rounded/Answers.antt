use Rattle.std.proofs.Common.{[], ◌++◌}
use Rattle.dsv_base.proofs.TakingLemmas.{writes_after, writes_cut}
use Rattle.dsv_c.specs.Syntax.{Rounded, Local}
use Rattle.dsv_c.specs.Programs.{addend_code, floor_code}
use Rattle.dsv_ctext.specs.HelperTexts.{function_head, helper_local_line, function_tail}
use Rattle.dsv_ctext.proofs.FunctionTexts.{rounded_written}
use Rattle.dsv_ctext.proofs.functions.put_rounded.Goals as goal

pub returns-in_err-put_rounded_start : goal.returns-in_err-put_rounded_start
returns-in_err-put_rounded_start g c = rw (rounded_written c.args.format.now c.args.c_type) (writes_cut {x = (function_head (Rounded c.args.c_type) (record { parameter = c.args.c_type; locals = []; value = Local 0; result = c.args.c_type }))} (((helper_local_line (record { type = c.args.c_type; value = addend_code c.args.format.now.rounding c.args.format.now.frac_bits }))) ++ ((function_tail (floor_code 1 c.args.format.now.frac_bits)))) c.from_residual.ensures.0 c.in_err-put_rounded_start.ensures.cut)

pub returns-in_err-put_addend : goal.returns-in_err-put_addend
returns-in_err-put_addend g c = rw (rounded_written c.args.format.now c.args.c_type) (writes_after {x = (function_head (Rounded c.args.c_type) (record { parameter = c.args.c_type; locals = []; value = Local 0; result = c.args.c_type }))} {y = ((helper_local_line (record { type = c.args.c_type; value = addend_code c.args.format.now.rounding c.args.format.now.frac_bits }))) ++ ((function_tail (floor_code 1 c.args.format.now.frac_bits)))} c.in_ok-put_rounded_start.ensures.whole (writes_cut {x = (helper_local_line (record { type = c.args.c_type; value = addend_code c.args.format.now.rounding c.args.format.now.frac_bits }))} ((function_tail (floor_code 1 c.args.format.now.frac_bits))) c.from_residual-in_err-put_addend.ensures.0 c.in_err-put_addend.ensures.cut))

pub returns : goal.returns
returns g c = rw (rounded_written c.args.format.now c.args.c_type) (writes_after {x = (function_head (Rounded c.args.c_type) (record { parameter = c.args.c_type; locals = []; value = Local 0; result = c.args.c_type }))} {y = ((helper_local_line (record { type = c.args.c_type; value = addend_code c.args.format.now.rounding c.args.format.now.frac_bits }))) ++ ((function_tail (floor_code 1 c.args.format.now.frac_bits)))} c.in_ok-put_rounded_start.ensures.whole (writes_after {x = (helper_local_line (record { type = c.args.c_type; value = addend_code c.args.format.now.rounding c.args.format.now.frac_bits }))} {y = (function_tail (floor_code 1 c.args.format.now.frac_bits))} c.in_ok-put_addend.ensures.whole (c.put_floor.ensures)))
