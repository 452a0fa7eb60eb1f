use Rattle.dsv_table.proofs.Rows.{shorter_by_one}
use Rattle.dsv_table.proofs.table.shortened_row.Goals as goal

pub returns-in-None : goal.returns-in-None
returns-in-None c = shorter_by_one c.args.numbers.items
