use Rattle.std.proofs.Common.{ℕ, ◌<◌, ◌++◌, length, false, sym, subst}
use Rattle.std.specs.Prelude.{codes}
use Rattle.dsv_base.proofs.TakingLemmas.{writes_after, writes_cut}
use Rattle.dsv_ctext.specs.Texts.{code_text}
use Rattle.dsv_c.specs.Programs.{code_at, codes_of}
use Rattle.dsv_ctext.specs.ProgramTexts.{step_end}
use Rattle.dsv_ctext.proofs.FitLines.{tail_written, output_below}
use Rattle.dsv_ctext.proofs.lines.put_step_tail.Goals as goal

pub returns-in_err-put_all : goal.returns-in_err-put_all
returns-in_err-put_all g c = rw (tail_written c.args.plan.now.names c.args.plan.now.net.now c.output-output.result c.output-output.ensures) (writes_cut {x = (codes "    return ")} (((code_text c.args.plan.now.names false (code_at (codes_of c.args.plan.now.net.now) c.output-output.result).expr)) ++ (step_end)) c.from_residual.ensures.0 c.in_err-put_all.ensures.cut)

pub returns-in_err-put_node : goal.returns-in_err-put_node
returns-in_err-put_node g c = rw (tail_written c.args.plan.now.names c.args.plan.now.net.now c.output-output.result c.output-output.ensures) (writes_after {x = (codes "    return ")} {y = ((code_text c.args.plan.now.names false (code_at (codes_of c.args.plan.now.net.now) c.output-output.result).expr)) ++ (step_end)} c.in_ok-put_all.ensures.whole (writes_cut {x = (code_text c.args.plan.now.names false (code_at (codes_of c.args.plan.now.net.now) c.output-output.result).expr)} (step_end) c.from_residual-in_err-put_node.ensures.0 c.in_err-put_node.ensures.cut))

pub returns : goal.returns
returns g c = rw (tail_written c.args.plan.now.names c.args.plan.now.net.now c.output-output.result c.output-output.ensures) (writes_after {x = (codes "    return ")} {y = ((code_text c.args.plan.now.names false (code_at (codes_of c.args.plan.now.net.now) c.output-output.result).expr)) ++ (step_end)} c.in_ok-put_all.ensures.whole (writes_after {x = (code_text c.args.plan.now.names false (code_at (codes_of c.args.plan.now.net.now) c.output-output.result).expr)} {y = step_end} c.in_ok-put_node.ensures.whole (c.put_all-2.ensures)))

pub put_node-requires-clause-there : goal.put_node-requires-clause-there
put_node-requires-clause-there g c = subst (λ (k : ℕ). k < length c.args.plan.now.net.now.nodes) (sym c.output-output.ensures) (output_below c.args.plan.now.net.now c.requires.plan.netlist)
