use Rattle.dsv_certfile.proofs.LineTexts.{writes_as, rows-text}
use Rattle.dsv_certfile.proofs.output.put_rows.Goals as goal

pub returns-clause-text : goal.returns-clause-text
returns-clause-text g c =
    let a = c.args in
    writes_as (rows-text a.word 8 a.d a.rows.now c.told-rows) (rw c.min.ensures at c.put_each_row.ensures.text)
