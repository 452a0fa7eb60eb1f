use Rattle.dsv_cnf.proofs.TextLaws.{read_text, text_read, one_formula, read_fault, fault_read, one_fault, some_answer, text_apart}
use Rattle.dsv_cnf.proofs.law.texts_are_read.Goals as goal

pub returns-clause-read : goal.returns-clause-read
returns-clause-read c = λ f bytes. (read_text f bytes, text_read f bytes)

pub returns-clause-one : goal.returns-clause-one
returns-clause-one c = one_formula

pub returns-clause-refused : goal.returns-clause-refused
returns-clause-refused c = λ why bytes. (read_fault why bytes, fault_read why bytes)

pub returns-clause-first : goal.returns-clause-first
returns-clause-first c = one_fault

pub returns-clause-some : goal.returns-clause-some
returns-clause-some c = some_answer

pub returns-clause-apart : goal.returns-clause-apart
returns-clause-apart c = text_apart
