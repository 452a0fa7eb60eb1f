use Rattle.std.proofs.Common.{◌<◌, length, arith}
use Rattle.dsv_base.proofs.TakingLemmas.{writes_err}
use Rattle.dsv_ctext.specs.Plans.{store_of}
use Rattle.dsv_ctext.proofs.LineTexts.{line_wrote, line_cut}
use Rattle.dsv_ctext.proofs.lines.put_stores.Goals as goal

pub loop-k-preserved : goal.loop-k-preserved
loop-k-preserved g c = line_wrote (store_of c.args.plan.now.names c.args.plan.now.net.now) c.loop-k.k c.loop-k.invariant c.in_ok-put_store.ensures.whole

pub returns-in_err-put_store : goal.returns-in_err-put_store
returns-in_err-put_store g c =
    let there : c.loop-k.k < (length c.args.plan.now.net.now.next) = omega (arith, c.loop-k-test.true, c.registers-k-end.ensures) in
    writes_err c.from_residual.ensures.0 (line_cut (store_of c.args.plan.now.names c.args.plan.now.net.now) c.loop-k.k (length c.args.plan.now.net.now.next) there c.loop-k.invariant c.in_err-put_store.ensures.cut)
