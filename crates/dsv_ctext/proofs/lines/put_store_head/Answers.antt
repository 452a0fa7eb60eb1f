use Rattle.std.proofs.Common.{◌++◌}
use Rattle.std.specs.Prelude.{codes}
use Rattle.dsv_base.proofs.TakingLemmas.{writes_after, writes_cut}
use Rattle.dsv_ctext.specs.Texts.{member_name}
use Rattle.dsv_ctext.proofs.lines.put_store_head.Goals as goal

pub returns-in_err-put_all : goal.returns-in_err-put_all
returns-in_err-put_all g c = writes_cut {x = (codes "    s->")} (((member_name c.args.names.now c.args.k)) ++ ((codes " = "))) c.from_residual.ensures.0 c.in_err-put_all.ensures.cut

pub returns-in_err-put_member : goal.returns-in_err-put_member
returns-in_err-put_member g c = writes_after {x = (codes "    s->")} {y = ((member_name c.args.names.now c.args.k)) ++ ((codes " = "))} c.in_ok-put_all.ensures.whole (writes_cut {x = (member_name c.args.names.now c.args.k)} ((codes " = ")) c.from_residual-in_err-put_member.ensures.0 c.in_err-put_member.ensures.cut)

pub returns : goal.returns
returns g c = writes_after {x = (codes "    s->")} {y = ((member_name c.args.names.now c.args.k)) ++ ((codes " = "))} c.in_ok-put_all.ensures.whole (writes_after {x = (member_name c.args.names.now c.args.k)} {y = (codes " = ")} c.in_ok-put_member.ensures.whole (c.put_all-2.ensures))
