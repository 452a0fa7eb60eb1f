use Rattle.std.proofs.Common.{◌++◌, map}
use Rattle.std.specs.Prelude.{codes}
use Rattle.std.specs.List.{flat_map}
use Rattle.dsv_system.specs.RowViews.{row_of}
use Rattle.dsv_base.proofs.TakingLemmas.{writes_after, writes_cut}
use Rattle.dsv_ctext.specs.TestTexts.{test_start, table_head, input_line, output_line, table_end}
use Rattle.dsv_ctext.proofs.test_main.put_tables.Goals as goal

pub returns-in_err-put_all : goal.returns-in_err-put_all
returns-in_err-put_all g c = writes_cut {x = (test_start)} ((table_head c.args.word (codes "inputs") c.args.many) ++ ((flat_map input_line (map row_of c.args.rows.now)) ++ ((table_end) ++ ((table_head c.args.word (codes "outputs") c.args.many) ++ ((flat_map output_line (map row_of c.args.rows.now)) ++ ((table_end))))))) c.from_residual.ensures.0 c.in_err-put_all.ensures.cut

pub returns-in_err-put_table_head : goal.returns-in_err-put_table_head
returns-in_err-put_table_head g c = writes_after {x = (test_start)} {y = (table_head c.args.word (codes "inputs") c.args.many) ++ ((flat_map input_line (map row_of c.args.rows.now)) ++ ((table_end) ++ ((table_head c.args.word (codes "outputs") c.args.many) ++ ((flat_map output_line (map row_of c.args.rows.now)) ++ ((table_end))))))} c.in_ok-put_all.ensures.whole (writes_cut {x = (table_head c.args.word (codes "inputs") c.args.many)} ((flat_map input_line (map row_of c.args.rows.now)) ++ ((table_end) ++ ((table_head c.args.word (codes "outputs") c.args.many) ++ ((flat_map output_line (map row_of c.args.rows.now)) ++ ((table_end)))))) c.from_residual-in_err-put_table_head.ensures.0 c.in_err-put_table_head.ensures.cut)

pub returns-in_err-put_inputs : goal.returns-in_err-put_inputs
returns-in_err-put_inputs g c = writes_after {x = (test_start)} {y = (table_head c.args.word (codes "inputs") c.args.many) ++ ((flat_map input_line (map row_of c.args.rows.now)) ++ ((table_end) ++ ((table_head c.args.word (codes "outputs") c.args.many) ++ ((flat_map output_line (map row_of c.args.rows.now)) ++ ((table_end))))))} c.in_ok-put_all.ensures.whole (writes_after {x = (table_head c.args.word (codes "inputs") c.args.many)} {y = (flat_map input_line (map row_of c.args.rows.now)) ++ ((table_end) ++ ((table_head c.args.word (codes "outputs") c.args.many) ++ ((flat_map output_line (map row_of c.args.rows.now)) ++ ((table_end)))))} c.in_ok-put_table_head.ensures.whole (writes_cut {x = (flat_map input_line (map row_of c.args.rows.now))} ((table_end) ++ ((table_head c.args.word (codes "outputs") c.args.many) ++ ((flat_map output_line (map row_of c.args.rows.now)) ++ ((table_end))))) c.from_residual-in_err-put_inputs.ensures.0 c.in_err-put_inputs.ensures.cut))

pub returns-in_err-put_all-2 : goal.returns-in_err-put_all-2
returns-in_err-put_all-2 g c = writes_after {x = (test_start)} {y = (table_head c.args.word (codes "inputs") c.args.many) ++ ((flat_map input_line (map row_of c.args.rows.now)) ++ ((table_end) ++ ((table_head c.args.word (codes "outputs") c.args.many) ++ ((flat_map output_line (map row_of c.args.rows.now)) ++ ((table_end))))))} c.in_ok-put_all.ensures.whole (writes_after {x = (table_head c.args.word (codes "inputs") c.args.many)} {y = (flat_map input_line (map row_of c.args.rows.now)) ++ ((table_end) ++ ((table_head c.args.word (codes "outputs") c.args.many) ++ ((flat_map output_line (map row_of c.args.rows.now)) ++ ((table_end)))))} c.in_ok-put_table_head.ensures.whole (writes_after {x = (flat_map input_line (map row_of c.args.rows.now))} {y = (table_end) ++ ((table_head c.args.word (codes "outputs") c.args.many) ++ ((flat_map output_line (map row_of c.args.rows.now)) ++ ((table_end))))} c.in_ok-put_inputs.ensures.whole (writes_cut {x = (table_end)} ((table_head c.args.word (codes "outputs") c.args.many) ++ ((flat_map output_line (map row_of c.args.rows.now)) ++ ((table_end)))) c.from_residual-in_err-put_all-2.ensures.0 c.in_err-put_all-2.ensures.cut)))

pub returns-in_err-put_table_head-2 : goal.returns-in_err-put_table_head-2
returns-in_err-put_table_head-2 g c = writes_after {x = (test_start)} {y = (table_head c.args.word (codes "inputs") c.args.many) ++ ((flat_map input_line (map row_of c.args.rows.now)) ++ ((table_end) ++ ((table_head c.args.word (codes "outputs") c.args.many) ++ ((flat_map output_line (map row_of c.args.rows.now)) ++ ((table_end))))))} c.in_ok-put_all.ensures.whole (writes_after {x = (table_head c.args.word (codes "inputs") c.args.many)} {y = (flat_map input_line (map row_of c.args.rows.now)) ++ ((table_end) ++ ((table_head c.args.word (codes "outputs") c.args.many) ++ ((flat_map output_line (map row_of c.args.rows.now)) ++ ((table_end)))))} c.in_ok-put_table_head.ensures.whole (writes_after {x = (flat_map input_line (map row_of c.args.rows.now))} {y = (table_end) ++ ((table_head c.args.word (codes "outputs") c.args.many) ++ ((flat_map output_line (map row_of c.args.rows.now)) ++ ((table_end))))} c.in_ok-put_inputs.ensures.whole (writes_after {x = (table_end)} {y = (table_head c.args.word (codes "outputs") c.args.many) ++ ((flat_map output_line (map row_of c.args.rows.now)) ++ ((table_end)))} c.in_ok-put_all-2.ensures.whole (writes_cut {x = (table_head c.args.word (codes "outputs") c.args.many)} ((flat_map output_line (map row_of c.args.rows.now)) ++ ((table_end))) c.from_residual-in_err-put_table_head-2.ensures.0 c.in_err-put_table_head-2.ensures.cut))))

pub returns-in_err-put_outputs : goal.returns-in_err-put_outputs
returns-in_err-put_outputs g c = writes_after {x = (test_start)} {y = (table_head c.args.word (codes "inputs") c.args.many) ++ ((flat_map input_line (map row_of c.args.rows.now)) ++ ((table_end) ++ ((table_head c.args.word (codes "outputs") c.args.many) ++ ((flat_map output_line (map row_of c.args.rows.now)) ++ ((table_end))))))} c.in_ok-put_all.ensures.whole (writes_after {x = (table_head c.args.word (codes "inputs") c.args.many)} {y = (flat_map input_line (map row_of c.args.rows.now)) ++ ((table_end) ++ ((table_head c.args.word (codes "outputs") c.args.many) ++ ((flat_map output_line (map row_of c.args.rows.now)) ++ ((table_end)))))} c.in_ok-put_table_head.ensures.whole (writes_after {x = (flat_map input_line (map row_of c.args.rows.now))} {y = (table_end) ++ ((table_head c.args.word (codes "outputs") c.args.many) ++ ((flat_map output_line (map row_of c.args.rows.now)) ++ ((table_end))))} c.in_ok-put_inputs.ensures.whole (writes_after {x = (table_end)} {y = (table_head c.args.word (codes "outputs") c.args.many) ++ ((flat_map output_line (map row_of c.args.rows.now)) ++ ((table_end)))} c.in_ok-put_all-2.ensures.whole (writes_after {x = (table_head c.args.word (codes "outputs") c.args.many)} {y = (flat_map output_line (map row_of c.args.rows.now)) ++ ((table_end))} c.in_ok-put_table_head-2.ensures.whole (writes_cut {x = (flat_map output_line (map row_of c.args.rows.now))} ((table_end)) c.from_residual-in_err-put_outputs.ensures.0 c.in_err-put_outputs.ensures.cut)))))

pub returns : goal.returns
returns g c = writes_after {x = (test_start)} {y = (table_head c.args.word (codes "inputs") c.args.many) ++ ((flat_map input_line (map row_of c.args.rows.now)) ++ ((table_end) ++ ((table_head c.args.word (codes "outputs") c.args.many) ++ ((flat_map output_line (map row_of c.args.rows.now)) ++ ((table_end))))))} c.in_ok-put_all.ensures.whole (writes_after {x = (table_head c.args.word (codes "inputs") c.args.many)} {y = (flat_map input_line (map row_of c.args.rows.now)) ++ ((table_end) ++ ((table_head c.args.word (codes "outputs") c.args.many) ++ ((flat_map output_line (map row_of c.args.rows.now)) ++ ((table_end)))))} c.in_ok-put_table_head.ensures.whole (writes_after {x = (flat_map input_line (map row_of c.args.rows.now))} {y = (table_end) ++ ((table_head c.args.word (codes "outputs") c.args.many) ++ ((flat_map output_line (map row_of c.args.rows.now)) ++ ((table_end))))} c.in_ok-put_inputs.ensures.whole (writes_after {x = (table_end)} {y = (table_head c.args.word (codes "outputs") c.args.many) ++ ((flat_map output_line (map row_of c.args.rows.now)) ++ ((table_end)))} c.in_ok-put_all-2.ensures.whole (writes_after {x = (table_head c.args.word (codes "outputs") c.args.many)} {y = (flat_map output_line (map row_of c.args.rows.now)) ++ ((table_end))} c.in_ok-put_table_head-2.ensures.whole (writes_after {x = (flat_map output_line (map row_of c.args.rows.now))} {y = (table_end)} c.in_ok-put_outputs.ensures.whole (c.put_all-3.ensures))))))
