use Rattle.dsv_base.proofs.TakingLemmas.{writes_err}
use Rattle.dsv_ctext.specs.Plans.{load_line}
use Rattle.dsv_ctext.proofs.LineTexts.{line_wrote, line_cut}
use Rattle.dsv_ctext.proofs.lines.put_loads.Goals as goal

pub loop-k-preserved : goal.loop-k-preserved
loop-k-preserved g c = line_wrote (load_line c.args.names.now c.args.word) c.loop-k.k c.loop-k.invariant c.in_ok-put_load.ensures.whole

pub returns-in_err-put_load : goal.returns-in_err-put_load
returns-in_err-put_load g c = writes_err c.from_residual.ensures.0 (line_cut (load_line c.args.names.now c.args.word) c.loop-k.k c.args.many c.loop-k-test.true c.loop-k.invariant c.in_err-put_load.ensures.cut)
