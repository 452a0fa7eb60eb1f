use Rattle.dsv_base.proofs.TakingLemmas.{writes_after, writes_cut}
use Rattle.dsv_c.specs.Syntax.{Rounded, Fitted}
use Rattle.dsv_ctext.specs.UnitTexts.{part_text}
use Rattle.dsv_ctext.proofs.emit.put_type_parts.Goals as goal

pub returns-in_err-put_part : goal.returns-in_err-put_part
returns-in_err-put_part g c = writes_cut {x = (part_text c.args.plan.now.net.now (Rounded c.args.c_type))} ((part_text c.args.plan.now.net.now (Fitted c.args.c_type))) c.from_residual.ensures.0 c.in_err-put_part.ensures.cut

pub returns : goal.returns
returns g c = writes_after {x = (part_text c.args.plan.now.net.now (Rounded c.args.c_type))} {y = (part_text c.args.plan.now.net.now (Fitted c.args.c_type))} c.in_ok-put_part.ensures.whole (c.put_part-2.ensures)
