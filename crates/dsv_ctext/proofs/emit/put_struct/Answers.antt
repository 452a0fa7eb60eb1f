use Rattle.std.proofs.Common.{◌++◌}
use Rattle.dsv_base.proofs.TakingLemmas.{writes_after, writes_cut}
use Rattle.dsv_ctext.specs.ProgramTexts.{struct_head, struct_tail, none_line, member_line, lines_from}
use Rattle.dsv_ctext.proofs.emit.put_struct.Goals as goal

pub returns-in_err-put_all : goal.returns-in_err-put_all
returns-in_err-put_all g c = writes_cut {x = struct_head} (((lines_from (member_line c.args.names.now c.args.word) 0 c.args.many)) ++ (((none_line c.args.many)) ++ (struct_tail c.args.names.now))) c.from_residual.ensures.0 c.in_err-put_all.ensures.cut

pub returns-in_err-put_member_lines : goal.returns-in_err-put_member_lines
returns-in_err-put_member_lines g c = writes_after {x = struct_head} {y = ((lines_from (member_line c.args.names.now c.args.word) 0 c.args.many)) ++ (((none_line c.args.many)) ++ (struct_tail c.args.names.now))} c.in_ok-put_all.ensures.whole (writes_cut {x = (lines_from (member_line c.args.names.now c.args.word) 0 c.args.many)} (((none_line c.args.many)) ++ (struct_tail c.args.names.now)) c.from_residual-in_err-put_member_lines.ensures.0 c.in_err-put_member_lines.ensures.cut)

pub returns-in_err-put_none_line : goal.returns-in_err-put_none_line
returns-in_err-put_none_line g c = writes_after {x = struct_head} {y = ((lines_from (member_line c.args.names.now c.args.word) 0 c.args.many)) ++ (((none_line c.args.many)) ++ (struct_tail c.args.names.now))} c.in_ok-put_all.ensures.whole (writes_after {x = (lines_from (member_line c.args.names.now c.args.word) 0 c.args.many)} {y = ((none_line c.args.many)) ++ (struct_tail c.args.names.now)} c.in_ok-put_member_lines.ensures.whole (writes_cut {x = (none_line c.args.many)} (struct_tail c.args.names.now) c.from_residual-in_err-put_none_line.ensures.0 c.in_err-put_none_line.ensures.cut))

pub returns : goal.returns
returns g c = writes_after {x = struct_head} {y = ((lines_from (member_line c.args.names.now c.args.word) 0 c.args.many)) ++ (((none_line c.args.many)) ++ (struct_tail c.args.names.now))} c.in_ok-put_all.ensures.whole (writes_after {x = (lines_from (member_line c.args.names.now c.args.word) 0 c.args.many)} {y = ((none_line c.args.many)) ++ (struct_tail c.args.names.now)} c.in_ok-put_member_lines.ensures.whole (writes_after {x = (none_line c.args.many)} {y = (struct_tail c.args.names.now)} c.in_ok-put_none_line.ensures.whole (c.put_struct_tail.ensures)))
