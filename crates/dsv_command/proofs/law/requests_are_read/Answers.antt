use Rattle.dsv_command.proofs.RequestLaws.{line_read, line_found, line_in_table, line_certifiable}
use Rattle.dsv_command.proofs.law.requests_are_read.Goals as goal

pub returns-clause-read : goal.returns-clause-read
returns-clause-read c = line_read

pub returns-clause-ruled : goal.returns-clause-ruled
returns-clause-ruled c = line_found

pub returns-clause-in_table : goal.returns-clause-in_table
returns-clause-in_table c = line_in_table

pub returns-clause-certifiable : goal.returns-clause-certifiable
returns-clause-certifiable c = line_certifiable
