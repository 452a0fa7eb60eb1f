use Rattle.std.proofs.Common.{[], arith}
use Rattle.dsv_base.proofs.TakingLemmas.{writes_cut, append_nil}
use Rattle.dsv_base.proofs.ListWrites.{cut_item}
use Rattle.dsv_report.specs.Report.{inequality_text, inequalities_text}
use Rattle.dsv_report.proofs.report.put_inequalities.Goals as goal

pub returns-in_err-put_inequality : goal.returns-in_err-put_inequality
returns-in_err-put_inequality g c =
    let all = c.args.inequalities.now in
    let cut = rw c.inequality-item.is at c.in_err-put_inequality.ensures.cut in
    let h = cut_item inequality_text [] all c.loop-inequality.inequality-index c.inequality-item.result (omega arith) c.loop-inequality.invariant cut in
    rw (append_nil (inequalities_text all)) (writes_cut [] c.from_residual.ensures.0 h)
