use Rattle.dsv_code.proofs.Written.{tested}
use Rattle.dsv_code.proofs.code.put_rows.Goals as goal

pub returns-in-len1-up : goal.returns-in-len1-up
returns-in-len1-up g c = rw (tested c.args.format.now c.args.prefix.now c.args.rows.now c.in-len1-up.len_at_least) c.put_test.ensures
