use Rattle.std.proofs.Common.{rules, ◌≡◌, get_or, arith}
use Rattle.dsv_base.proofs.TakingLemmas.{writes_err}
use Rattle.dsv_report.proofs.NumberedLines.{wrote_line, cut_line}
use Rattle.dsv_report.specs.Gains.{range_text}
use Rattle.dsv_report.proofs.gains.put_ranges.Goals as goal

pub returns-in_err-put_range : goal.returns-in_err-put_range
returns-in_err-put_range g c =
    let range = c.index-ranges-number.result in
    let item : range ≡ get_or c.args.ranges.now c.loop-number.number range = search rules in
    writes_err c.from_residual.ensures.0
    (cut_line range_text c.args.ranges.now c.loop-number.number range (omega arith) item c.loop-number.invariant c.in_err-put_range.ensures.cut)

pub loop-number-preserved : goal.loop-number-preserved
loop-number-preserved g c =
    let range = c.index-ranges-number.result in
    let item : range ≡ get_or c.args.ranges.now c.loop-number.number range = search rules in
    wrote_line range_text c.args.ranges.now c.loop-number.number range (omega arith) item c.loop-number.invariant c.in_ok-put_range.ensures.whole
