use Rattle.std.proofs.Common.{◌++◌, false}
use Rattle.dsv_base.proofs.TakingLemmas.{writes_after, writes_cut}
use Rattle.dsv_ctext.specs.Texts.{code_text}
use Rattle.dsv_c.specs.Programs.{code_at, codes_of}
use Rattle.dsv_ctext.specs.ProgramTexts.{store_head, line_end}
use Rattle.dsv_ctext.proofs.FitLines.{next_below, store_written}
use Rattle.dsv_ctext.proofs.lines.put_store.Goals as goal

pub returns-in_err-put_store_head : goal.returns-in_err-put_store_head
returns-in_err-put_store_head g c =
    let p = c.args.plan.now in
    rw (store_written p.names p.net.now c.args.k c.next-node.result c.next-node.ensures) (writes_cut {x = (store_head p.names c.args.k)} (((code_text p.names false (code_at (codes_of p.net.now) c.next-node.result).expr)) ++ (line_end)) c.from_residual.ensures.0 c.in_err-put_store_head.ensures.cut)

pub returns-in_err-put_node : goal.returns-in_err-put_node
returns-in_err-put_node g c =
    let p = c.args.plan.now in
    rw (store_written p.names p.net.now c.args.k c.next-node.result c.next-node.ensures) (writes_after {x = (store_head p.names c.args.k)} {y = ((code_text p.names false (code_at (codes_of p.net.now) c.next-node.result).expr)) ++ (line_end)} c.in_ok-put_store_head.ensures.whole (writes_cut {x = (code_text p.names false (code_at (codes_of p.net.now) c.next-node.result).expr)} (line_end) c.from_residual-in_err-put_node.ensures.0 c.in_err-put_node.ensures.cut))

pub returns : goal.returns
returns g c =
    let p = c.args.plan.now in
    rw (store_written p.names p.net.now c.args.k c.next-node.result c.next-node.ensures) (writes_after {x = (store_head p.names c.args.k)} {y = ((code_text p.names false (code_at (codes_of p.net.now) c.next-node.result).expr)) ++ (line_end)} c.in_ok-put_store_head.ensures.whole (writes_after {x = (code_text p.names false (code_at (codes_of p.net.now) c.next-node.result).expr)} {y = line_end} c.in_ok-put_node.ensures.whole (c.put_all.ensures)))

pub put_node-requires-clause-there : goal.put_node-requires-clause-there
put_node-requires-clause-there g c = next_below c.args.plan.now.net.now c.args.k c.next-node.result c.requires.plan.netlist c.requires.there c.next-node.ensures
