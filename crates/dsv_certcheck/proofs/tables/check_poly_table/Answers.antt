use Rattle.dsv_certcheck.proofs.CheckLemmas.{on_ok}
use Rattle.dsv_certcheck.proofs.TableLemmas.{inside_falls}
use Rattle.dsv_certcheck.proofs.tables.check_poly_table.Goals as goal

pub returns-clause-shows : goal.returns-clause-shows
returns-clause-shows c =
    let first = c.coefficients-coefficients.ensures in
    on_ok c.check_table.result (inside_falls c.args.poly.now (rw first.same at first.poly.first)) (rw (c.as_slice.ensures, c.in_ok-numbers.ensures) at c.check_table.ensures.shows)
