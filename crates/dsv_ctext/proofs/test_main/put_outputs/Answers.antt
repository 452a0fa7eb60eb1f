use Rattle.std.proofs.Common.{rules, ◌≤◌, [], length, arith}
use Rattle.std.proofs.lemmas.List.{take_all}
use Rattle.dsv_base.proofs.ListWrites.{cut_item}
use Rattle.dsv_base.proofs.TakingLemmas.{writes_err}
use Rattle.dsv_system.specs.RowViews.{row_of}
use Rattle.dsv_ctext.specs.TestTexts.{output_line}
use Rattle.dsv_ctext.proofs.RowTexts.{row_output, lines_of_map}
use Rattle.dsv_ctext.proofs.test_main.put_outputs.Goals as goal

pub returns-in_err-put_output : goal.returns-in_err-put_output
returns-in_err-put_output g c =
    let all = c.args.rows.now in
    let cut = rw c.row-item.is at c.in_err-put_output.ensures.cut in
    rw (← lines_of_map output_line row_of all) (writes_err c.from_residual.ensures.0 (cut_item row_output [] all c.loop-row.row-index c.row-item.result (omega arith) c.loop-row.invariant cut))

pub returns : goal.returns
returns g c =
    let all = c.args.rows.now in
    let end : length all ≤ c.loop-row.row-index = search rules in
    rw (← lines_of_map output_line row_of all) (record { whole = rw (take_all c.loop-row.row-index all end) at c.loop-row.invariant; cut = tt })
