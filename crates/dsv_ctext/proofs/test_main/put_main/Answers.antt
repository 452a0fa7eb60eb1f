use Rattle.std.proofs.Common.{◌++◌}
use Rattle.dsv_base.proofs.TakingLemmas.{writes_after, writes_cut}
use Rattle.dsv_ctext.specs.TestTexts.{main_start, main_loop, main_step, main_end}
use Rattle.dsv_ctext.proofs.test_main.put_main.Goals as goal

pub returns-in_err-put_main_start : goal.returns-in_err-put_main_start
returns-in_err-put_main_start g c = writes_cut {x = (main_start c.args.prefix.now)} ((main_loop c.args.prefix.now c.args.many) ++ ((main_step c.args.prefix.now c.args.word) ++ ((main_end)))) c.from_residual.ensures.0 c.in_err-put_main_start.ensures.cut

pub returns-in_err-put_main_loop : goal.returns-in_err-put_main_loop
returns-in_err-put_main_loop g c = writes_after {x = (main_start c.args.prefix.now)} {y = (main_loop c.args.prefix.now c.args.many) ++ ((main_step c.args.prefix.now c.args.word) ++ ((main_end)))} c.in_ok-put_main_start.ensures.whole (writes_cut {x = (main_loop c.args.prefix.now c.args.many)} ((main_step c.args.prefix.now c.args.word) ++ ((main_end))) c.from_residual-in_err-put_main_loop.ensures.0 c.in_err-put_main_loop.ensures.cut)

pub returns-in_err-put_main_step : goal.returns-in_err-put_main_step
returns-in_err-put_main_step g c = writes_after {x = (main_start c.args.prefix.now)} {y = (main_loop c.args.prefix.now c.args.many) ++ ((main_step c.args.prefix.now c.args.word) ++ ((main_end)))} c.in_ok-put_main_start.ensures.whole (writes_after {x = (main_loop c.args.prefix.now c.args.many)} {y = (main_step c.args.prefix.now c.args.word) ++ ((main_end))} c.in_ok-put_main_loop.ensures.whole (writes_cut {x = (main_step c.args.prefix.now c.args.word)} ((main_end)) c.from_residual-in_err-put_main_step.ensures.0 c.in_err-put_main_step.ensures.cut))

pub returns : goal.returns
returns g c = writes_after {x = (main_start c.args.prefix.now)} {y = (main_loop c.args.prefix.now c.args.many) ++ ((main_step c.args.prefix.now c.args.word) ++ ((main_end)))} c.in_ok-put_main_start.ensures.whole (writes_after {x = (main_loop c.args.prefix.now c.args.many)} {y = (main_step c.args.prefix.now c.args.word) ++ ((main_end))} c.in_ok-put_main_loop.ensures.whole (writes_after {x = (main_step c.args.prefix.now c.args.word)} {y = (main_end)} c.in_ok-put_main_step.ensures.whole (c.put_main_end.ensures)))
