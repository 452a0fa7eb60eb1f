use Rattle.dsv_base.proofs.TakingLemmas.{writes_err}
use Rattle.dsv_ctext.specs.Plans.{init_line}
use Rattle.dsv_ctext.proofs.LineTexts.{line_wrote, line_cut}
use Rattle.dsv_ctext.proofs.lines.put_zeros.Goals as goal

pub loop-k-preserved : goal.loop-k-preserved
loop-k-preserved g c = line_wrote (init_line c.args.names.now) c.loop-k.k c.loop-k.invariant c.in_ok-put_zero.ensures.whole

pub returns-in_err-put_zero : goal.returns-in_err-put_zero
returns-in_err-put_zero g c = writes_err c.from_residual.ensures.0 (line_cut (init_line c.args.names.now) c.loop-k.k c.args.many c.loop-k-test.true c.loop-k.invariant c.in_err-put_zero.ensures.cut)
