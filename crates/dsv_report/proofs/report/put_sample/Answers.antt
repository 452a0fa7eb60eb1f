use Rattle.std.proofs.Common.{codes}
use Rattle.dsv_base.proofs.TakingLemmas.{writes_after, writes_err, cut_more}
use Rattle.dsv_report.specs.Forms.{numbers_line}
use Rattle.dsv_report.proofs.report.put_sample.Goals as goal

pub returns-in_err-put_sample_head : goal.returns-in_err-put_sample_head
returns-in_err-put_sample_head g c =
    writes_err c.from_residual.ensures.0 (cut_more (numbers_line (codes " exact") c.args.row.now.exact.items) c.in_err-put_sample_head.ensures.cut)

pub returns : goal.returns
returns g c = writes_after c.in_ok-put_sample_head.ensures.whole (rw c.as_slice.ensures.value at c.put_line.ensures)
