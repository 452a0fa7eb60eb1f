use Rattle.std.proofs.Common.{◌+◌, ◌++◌}
use Rattle.std.specs.Prelude.{codes}
use Rattle.dsv_base.proofs.TakingLemmas.{writes_after, writes_cut}
use Rattle.dsv_ctext.specs.Texts.{member_name}
use Rattle.dsv_ctext.specs.ProgramTexts.{declaration_head, line_end}
use Rattle.dsv_ctext.proofs.lines.put_load.Goals as goal

pub returns-in_err-put_declaration_head : goal.returns-in_err-put_declaration_head
returns-in_err-put_declaration_head g c = writes_cut {x = (declaration_head c.args.names.now c.args.word (c.args.k + 1))} (((codes "s->")) ++ (((member_name c.args.names.now c.args.k)) ++ (line_end))) c.from_residual.ensures.0 c.in_err-put_declaration_head.ensures.cut

pub returns-in_err-put_all : goal.returns-in_err-put_all
returns-in_err-put_all g c = writes_after {x = (declaration_head c.args.names.now c.args.word (c.args.k + 1))} {y = ((codes "s->")) ++ (((member_name c.args.names.now c.args.k)) ++ (line_end))} c.in_ok-put_declaration_head.ensures.whole (writes_cut {x = (codes "s->")} (((member_name c.args.names.now c.args.k)) ++ (line_end)) c.from_residual-in_err-put_all.ensures.0 c.in_err-put_all.ensures.cut)

pub returns-in_err-put_member : goal.returns-in_err-put_member
returns-in_err-put_member g c = writes_after {x = (declaration_head c.args.names.now c.args.word (c.args.k + 1))} {y = ((codes "s->")) ++ (((member_name c.args.names.now c.args.k)) ++ (line_end))} c.in_ok-put_declaration_head.ensures.whole (writes_after {x = (codes "s->")} {y = ((member_name c.args.names.now c.args.k)) ++ (line_end)} c.in_ok-put_all.ensures.whole (writes_cut {x = (member_name c.args.names.now c.args.k)} (line_end) c.from_residual-in_err-put_member.ensures.0 c.in_err-put_member.ensures.cut))

pub returns : goal.returns
returns g c = writes_after {x = (declaration_head c.args.names.now c.args.word (c.args.k + 1))} {y = ((codes "s->")) ++ (((member_name c.args.names.now c.args.k)) ++ (line_end))} c.in_ok-put_declaration_head.ensures.whole (writes_after {x = (codes "s->")} {y = ((member_name c.args.names.now c.args.k)) ++ (line_end)} c.in_ok-put_all.ensures.whole (writes_after {x = (member_name c.args.names.now c.args.k)} {y = line_end} c.in_ok-put_member.ensures.whole (c.put_all-2.ensures)))
