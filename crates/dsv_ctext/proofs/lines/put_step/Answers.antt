use Rattle.std.proofs.Common.{◌++◌, length, ap, ◌∙◌}
use Rattle.dsv_base.proofs.TakingLemmas.{writes_after, writes_cut}
use Rattle.dsv_c.specs.Programs.{code_at, codes_of, word_type}
use Rattle.dsv_ctext.specs.Plans.{load_line, node_line, store_of}
use Rattle.dsv_ctext.specs.ProgramTexts.{lines_from, step_head, step_tail}
use Rattle.dsv_ctext.proofs.FitLines.{step_written_as}
use Rattle.dsv_ctext.proofs.lines.put_step.Goals as goal

pub returns-in_err-put_step_head : goal.returns-in_err-put_step_head
returns-in_err-put_step_head g c = rw (step_written_as c.args.plan.now.names c.args.plan.now.net.now c.word_type-word.result c.registers-many.result c.requires.plan.netlist (c.word_type-word.ensures ∙ ap word_type c.format.ensures) c.registers-many.ensures) (writes_cut {x = (step_head c.args.plan.now.names c.word_type-word.result c.registers-many.result)} (((lines_from (load_line c.args.plan.now.names c.word_type-word.result) 0 c.registers-many.result)) ++ (((lines_from (node_line c.args.plan.now.names c.args.plan.now.net.now) 0 (length c.args.plan.now.net.now.nodes))) ++ (((lines_from (store_of c.args.plan.now.names c.args.plan.now.net.now) 0 (length c.args.plan.now.net.now.next))) ++ ((step_tail c.args.plan.now.names (code_at (codes_of c.args.plan.now.net.now) c.args.plan.now.net.now.output).expr))))) c.from_residual.ensures.0 c.in_err-put_step_head.ensures.cut)

pub returns-in_err-put_loads : goal.returns-in_err-put_loads
returns-in_err-put_loads g c = rw (step_written_as c.args.plan.now.names c.args.plan.now.net.now c.word_type-word.result c.registers-many.result c.requires.plan.netlist (c.word_type-word.ensures ∙ ap word_type c.format.ensures) c.registers-many.ensures) (writes_after {x = (step_head c.args.plan.now.names c.word_type-word.result c.registers-many.result)} {y = ((lines_from (load_line c.args.plan.now.names c.word_type-word.result) 0 c.registers-many.result)) ++ (((lines_from (node_line c.args.plan.now.names c.args.plan.now.net.now) 0 (length c.args.plan.now.net.now.nodes))) ++ (((lines_from (store_of c.args.plan.now.names c.args.plan.now.net.now) 0 (length c.args.plan.now.net.now.next))) ++ ((step_tail c.args.plan.now.names (code_at (codes_of c.args.plan.now.net.now) c.args.plan.now.net.now.output).expr))))} c.in_ok-put_step_head.ensures.whole (writes_cut {x = (lines_from (load_line c.args.plan.now.names c.word_type-word.result) 0 c.registers-many.result)} (((lines_from (node_line c.args.plan.now.names c.args.plan.now.net.now) 0 (length c.args.plan.now.net.now.nodes))) ++ (((lines_from (store_of c.args.plan.now.names c.args.plan.now.net.now) 0 (length c.args.plan.now.net.now.next))) ++ ((step_tail c.args.plan.now.names (code_at (codes_of c.args.plan.now.net.now) c.args.plan.now.net.now.output).expr)))) c.from_residual-in_err-put_loads.ensures.0 c.in_err-put_loads.ensures.cut))

pub returns-in_err-put_node_lines : goal.returns-in_err-put_node_lines
returns-in_err-put_node_lines g c = rw (step_written_as c.args.plan.now.names c.args.plan.now.net.now c.word_type-word.result c.registers-many.result c.requires.plan.netlist (c.word_type-word.ensures ∙ ap word_type c.format.ensures) c.registers-many.ensures) (writes_after {x = (step_head c.args.plan.now.names c.word_type-word.result c.registers-many.result)} {y = ((lines_from (load_line c.args.plan.now.names c.word_type-word.result) 0 c.registers-many.result)) ++ (((lines_from (node_line c.args.plan.now.names c.args.plan.now.net.now) 0 (length c.args.plan.now.net.now.nodes))) ++ (((lines_from (store_of c.args.plan.now.names c.args.plan.now.net.now) 0 (length c.args.plan.now.net.now.next))) ++ ((step_tail c.args.plan.now.names (code_at (codes_of c.args.plan.now.net.now) c.args.plan.now.net.now.output).expr))))} c.in_ok-put_step_head.ensures.whole (writes_after {x = (lines_from (load_line c.args.plan.now.names c.word_type-word.result) 0 c.registers-many.result)} {y = ((lines_from (node_line c.args.plan.now.names c.args.plan.now.net.now) 0 (length c.args.plan.now.net.now.nodes))) ++ (((lines_from (store_of c.args.plan.now.names c.args.plan.now.net.now) 0 (length c.args.plan.now.net.now.next))) ++ ((step_tail c.args.plan.now.names (code_at (codes_of c.args.plan.now.net.now) c.args.plan.now.net.now.output).expr)))} c.in_ok-put_loads.ensures.whole (writes_cut {x = (lines_from (node_line c.args.plan.now.names c.args.plan.now.net.now) 0 (length c.args.plan.now.net.now.nodes))} (((lines_from (store_of c.args.plan.now.names c.args.plan.now.net.now) 0 (length c.args.plan.now.net.now.next))) ++ ((step_tail c.args.plan.now.names (code_at (codes_of c.args.plan.now.net.now) c.args.plan.now.net.now.output).expr))) c.from_residual-in_err-put_node_lines.ensures.0 c.in_err-put_node_lines.ensures.cut)))

pub returns-in_err-put_stores : goal.returns-in_err-put_stores
returns-in_err-put_stores g c = rw (step_written_as c.args.plan.now.names c.args.plan.now.net.now c.word_type-word.result c.registers-many.result c.requires.plan.netlist (c.word_type-word.ensures ∙ ap word_type c.format.ensures) c.registers-many.ensures) (writes_after {x = (step_head c.args.plan.now.names c.word_type-word.result c.registers-many.result)} {y = ((lines_from (load_line c.args.plan.now.names c.word_type-word.result) 0 c.registers-many.result)) ++ (((lines_from (node_line c.args.plan.now.names c.args.plan.now.net.now) 0 (length c.args.plan.now.net.now.nodes))) ++ (((lines_from (store_of c.args.plan.now.names c.args.plan.now.net.now) 0 (length c.args.plan.now.net.now.next))) ++ ((step_tail c.args.plan.now.names (code_at (codes_of c.args.plan.now.net.now) c.args.plan.now.net.now.output).expr))))} c.in_ok-put_step_head.ensures.whole (writes_after {x = (lines_from (load_line c.args.plan.now.names c.word_type-word.result) 0 c.registers-many.result)} {y = ((lines_from (node_line c.args.plan.now.names c.args.plan.now.net.now) 0 (length c.args.plan.now.net.now.nodes))) ++ (((lines_from (store_of c.args.plan.now.names c.args.plan.now.net.now) 0 (length c.args.plan.now.net.now.next))) ++ ((step_tail c.args.plan.now.names (code_at (codes_of c.args.plan.now.net.now) c.args.plan.now.net.now.output).expr)))} c.in_ok-put_loads.ensures.whole (writes_after {x = (lines_from (node_line c.args.plan.now.names c.args.plan.now.net.now) 0 (length c.args.plan.now.net.now.nodes))} {y = ((lines_from (store_of c.args.plan.now.names c.args.plan.now.net.now) 0 (length c.args.plan.now.net.now.next))) ++ ((step_tail c.args.plan.now.names (code_at (codes_of c.args.plan.now.net.now) c.args.plan.now.net.now.output).expr))} c.in_ok-put_node_lines.ensures.whole (writes_cut {x = (lines_from (store_of c.args.plan.now.names c.args.plan.now.net.now) 0 (length c.args.plan.now.net.now.next))} ((step_tail c.args.plan.now.names (code_at (codes_of c.args.plan.now.net.now) c.args.plan.now.net.now.output).expr)) c.from_residual-in_err-put_stores.ensures.0 c.in_err-put_stores.ensures.cut))))

pub returns : goal.returns
returns g c = rw (step_written_as c.args.plan.now.names c.args.plan.now.net.now c.word_type-word.result c.registers-many.result c.requires.plan.netlist (c.word_type-word.ensures ∙ ap word_type c.format.ensures) c.registers-many.ensures) (writes_after {x = (step_head c.args.plan.now.names c.word_type-word.result c.registers-many.result)} {y = ((lines_from (load_line c.args.plan.now.names c.word_type-word.result) 0 c.registers-many.result)) ++ (((lines_from (node_line c.args.plan.now.names c.args.plan.now.net.now) 0 (length c.args.plan.now.net.now.nodes))) ++ (((lines_from (store_of c.args.plan.now.names c.args.plan.now.net.now) 0 (length c.args.plan.now.net.now.next))) ++ ((step_tail c.args.plan.now.names (code_at (codes_of c.args.plan.now.net.now) c.args.plan.now.net.now.output).expr))))} c.in_ok-put_step_head.ensures.whole (writes_after {x = (lines_from (load_line c.args.plan.now.names c.word_type-word.result) 0 c.registers-many.result)} {y = ((lines_from (node_line c.args.plan.now.names c.args.plan.now.net.now) 0 (length c.args.plan.now.net.now.nodes))) ++ (((lines_from (store_of c.args.plan.now.names c.args.plan.now.net.now) 0 (length c.args.plan.now.net.now.next))) ++ ((step_tail c.args.plan.now.names (code_at (codes_of c.args.plan.now.net.now) c.args.plan.now.net.now.output).expr)))} c.in_ok-put_loads.ensures.whole (writes_after {x = (lines_from (node_line c.args.plan.now.names c.args.plan.now.net.now) 0 (length c.args.plan.now.net.now.nodes))} {y = ((lines_from (store_of c.args.plan.now.names c.args.plan.now.net.now) 0 (length c.args.plan.now.net.now.next))) ++ ((step_tail c.args.plan.now.names (code_at (codes_of c.args.plan.now.net.now) c.args.plan.now.net.now.output).expr))} c.in_ok-put_node_lines.ensures.whole (writes_after {x = (lines_from (store_of c.args.plan.now.names c.args.plan.now.net.now) 0 (length c.args.plan.now.net.now.next))} {y = (step_tail c.args.plan.now.names (code_at (codes_of c.args.plan.now.net.now) c.args.plan.now.net.now.output).expr)} c.in_ok-put_stores.ensures.whole (c.put_step_tail.ensures)))))
