use Rattle.std.proofs.Common.{◌++◌}
use Rattle.dsv_base.proofs.TakingLemmas.{writes_after, writes_cut}
use Rattle.dsv_report.specs.Tables.{verdict_text, root_text}
use Rattle.dsv_report.proofs.tables.put_table.Goals as goal

pub returns-in_err-put_polynomial : goal.returns-in_err-put_polynomial
returns-in_err-put_polynomial g c =
    let found = c.args.found.now in
    writes_cut (verdict_text found.verdict ++ root_text found.root) c.from_residual.ensures.0 (rw c.as_slice.ensures at c.in_err-put_polynomial.ensures.cut)

pub returns-in_err-put_verdict : goal.returns-in_err-put_verdict
returns-in_err-put_verdict g c =
    writes_after (rw c.as_slice.ensures at c.in_ok-put_polynomial.ensures.whole)
    (writes_cut (root_text c.args.found.now.root) c.from_residual-in_err-put_verdict.ensures.0 c.in_err-put_verdict.ensures.cut)

pub returns : goal.returns
returns g c =
    writes_after (rw c.as_slice.ensures at c.in_ok-put_polynomial.ensures.whole) (writes_after c.in_ok-put_verdict.ensures.whole c.put_root.ensures)
