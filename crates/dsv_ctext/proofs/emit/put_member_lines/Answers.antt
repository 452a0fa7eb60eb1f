use Rattle.dsv_base.proofs.TakingLemmas.{writes_err}
use Rattle.dsv_ctext.specs.ProgramTexts.{member_line}
use Rattle.dsv_ctext.proofs.LineTexts.{line_wrote, line_cut}
use Rattle.dsv_ctext.proofs.emit.put_member_lines.Goals as goal

pub loop-k-preserved : goal.loop-k-preserved
loop-k-preserved g c = line_wrote (member_line c.args.names.now c.args.word) c.loop-k.k c.loop-k.invariant c.in_ok-put_member_line.ensures.whole

pub returns-in_err-put_member_line : goal.returns-in_err-put_member_line
returns-in_err-put_member_line g c = writes_err c.from_residual.ensures.0 (line_cut (member_line c.args.names.now c.args.word) c.loop-k.k c.args.many c.loop-k-test.true c.loop-k.invariant c.in_err-put_member_line.ensures.cut)
