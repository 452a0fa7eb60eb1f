use Rattle.std.proofs.Common.{◌≡◌, take, ap, ◌∙◌}
use Rattle.dsv_certfile.proofs.LineTexts.{take_least}
use Rattle.dsv_certfile.proofs.output.put_row.Goals as goal

pub returns-clause-text : goal.returns-clause-text
returns-clause-text g c =
    let row = c.args.row.now in
    let e : take c.min.result row ≡ take c.args.d row = ap (λ n. take n row) c.min.ensures ∙ take_least 8 c.args.d row c.told-row in
    rw e at c.put_numbers.ensures
