use Rattle.std.proofs.Common.{rules, ◌≡◌, ◌≤◌, get_or, length, arith}
use Rattle.std.proofs.lemmas.List.{take_all}
use Rattle.dsv_base.proofs.TakingLemmas.{writes_err}
use Rattle.dsv_system.specs.RowViews.{row_of}
use Rattle.dsv_report.proofs.NumberedLines.{wrote_line, cut_line, lines_of_map}
use Rattle.dsv_report.proofs.report.put_samples.Invariants.{row_text}
use Rattle.dsv_report.specs.Report.{sample_text}
use Rattle.dsv_report.proofs.report.put_samples.Goals as goal

pub returns-in_err-put_sample : goal.returns-in_err-put_sample
returns-in_err-put_sample g c =
    let row = c.index-rows-number.result in
    let item : row ≡ get_or c.args.rows.now c.loop-number.number row = search rules in
    writes_err c.from_residual.ensures.0
    (rw (← lines_of_map sample_text row_of 0 c.args.rows.now)
    (cut_line row_text c.args.rows.now c.loop-number.number row (omega arith) item c.loop-number.invariant c.in_err-put_sample.ensures.cut))

pub loop-number-preserved : goal.loop-number-preserved
loop-number-preserved g c =
    let row = c.index-rows-number.result in
    let item : row ≡ get_or c.args.rows.now c.loop-number.number row = search rules in
    wrote_line row_text c.args.rows.now c.loop-number.number row (omega arith) item c.loop-number.invariant c.in_ok-put_sample.ensures.whole

pub returns : goal.returns
returns g c =
    let all = c.args.rows.now in
    let end : length all ≤ c.loop-number.number = search rules in
    rw (← lines_of_map sample_text row_of 0 all) (record { whole = rw (take_all c.loop-number.number all end) at c.loop-number.invariant; cut = tt })
