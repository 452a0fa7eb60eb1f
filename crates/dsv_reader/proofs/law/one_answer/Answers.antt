use Rattle.dsv_reader.proofs.TextLaws.{text_taken, text_read, some_answer, answers_apart, one_design}
use Rattle.dsv_reader.proofs.ValueLaws.{values_taken, values_read}
use Rattle.dsv_reader.proofs.law.one_answer.Goals as goal

pub returns-clause-some : goal.returns-clause-some
returns-clause-some c = some_answer

pub returns-clause-apart : goal.returns-clause-apart
returns-clause-apart c = answers_apart

pub returns-clause-one : goal.returns-clause-one
returns-clause-one c = one_design

pub returns-clause-read : goal.returns-clause-read
returns-clause-read c = λ bytes d. (text_taken bytes d, text_read bytes d)

pub returns-clause-table : goal.returns-clause-table
returns-clause-table c = λ bytes fields v. (values_taken bytes fields v, values_read bytes fields v)
