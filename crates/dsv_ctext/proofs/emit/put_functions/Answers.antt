use Rattle.std.proofs.Common.{◌++◌}
use Rattle.dsv_base.proofs.TakingLemmas.{writes_after, writes_cut}
use Rattle.dsv_c.specs.declared.c_type.CType.TheVariants.{Int, Int32, Int64}
use Rattle.dsv_ctext.specs.UnitTexts.{type_parts}
use Rattle.dsv_ctext.proofs.UnitLemmas.{functions_written_as}
use Rattle.dsv_ctext.proofs.emit.put_functions.Goals as goal

pub returns-in_err-put_type_parts : goal.returns-in_err-put_type_parts
returns-in_err-put_type_parts g c = rw (functions_written_as c.args.plan.now.net.now) (writes_cut {x = (type_parts c.args.plan.now.net.now Int)} (((type_parts c.args.plan.now.net.now Int32)) ++ ((type_parts c.args.plan.now.net.now Int64))) c.from_residual.ensures.0 c.in_err-put_type_parts.ensures.cut)

pub returns-in_err-put_type_parts-2 : goal.returns-in_err-put_type_parts-2
returns-in_err-put_type_parts-2 g c = rw (functions_written_as c.args.plan.now.net.now) (writes_after {x = (type_parts c.args.plan.now.net.now Int)} {y = ((type_parts c.args.plan.now.net.now Int32)) ++ ((type_parts c.args.plan.now.net.now Int64))} c.in_ok-put_type_parts.ensures.whole (writes_cut {x = (type_parts c.args.plan.now.net.now Int32)} ((type_parts c.args.plan.now.net.now Int64)) c.from_residual-in_err-put_type_parts-2.ensures.0 c.in_err-put_type_parts-2.ensures.cut))

pub returns : goal.returns
returns g c = rw (functions_written_as c.args.plan.now.net.now) (writes_after {x = (type_parts c.args.plan.now.net.now Int)} {y = ((type_parts c.args.plan.now.net.now Int32)) ++ ((type_parts c.args.plan.now.net.now Int64))} c.in_ok-put_type_parts.ensures.whole (writes_after {x = (type_parts c.args.plan.now.net.now Int32)} {y = (type_parts c.args.plan.now.net.now Int64)} c.in_ok-put_type_parts-2.ensures.whole (c.put_type_parts-3.ensures)))
