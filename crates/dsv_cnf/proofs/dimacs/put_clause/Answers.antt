use Rattle.std.proofs.Common.{[], ◌≡◌, length, codes, arith}
use Rattle.std.proofs.Math.Seq.{take-length}
use Rattle.dsv_base.proofs.TakingLemmas.{writes_after, writes_cut}
use Rattle.dsv_base.proofs.ListWrites.{cut_item}
use Rattle.dsv_cnf.specs.Dimacs.{literal_text}
use Rattle.dsv_cnf.proofs.dimacs.put_clause.Goals as goal

pub returns-in_err-put_literal : goal.returns-in_err-put_literal
returns-in_err-put_literal g c =
    let item = c.literal-item in
    let cut = c.in_err-put_literal.ensures.cut in
    writes_cut (codes "0\n") c.from_residual.ensures.0
    (cut_item literal_text [] c.args.clause.now c.loop-literal.literal-index item.result (omega arith) c.loop-literal.invariant (rw (← item.is) cut))

pub returns : goal.returns
returns g c =
    let e : c.loop-literal.literal-index ≡ length c.args.clause.now = omega arith in
    let all = take-length c.args.clause.now in
    rw (e, all) at (writes_after c.loop-literal.invariant c.put_all.ensures)
