use Rattle.dsv_command.proofs.PartLaws.{given_is_read, read_is_given}
use Rattle.dsv_command.proofs.law.parts_are_read.Goals as goal

pub returns-clause-read : goal.returns-clause-read
returns-clause-read c = given_is_read

pub returns-clause-given : goal.returns-clause-given
returns-clause-given c = read_is_given
