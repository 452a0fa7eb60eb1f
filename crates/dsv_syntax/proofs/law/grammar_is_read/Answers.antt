use Rattle.dsv_syntax.proofs.ReadLemmas.{file_read}
use Rattle.dsv_syntax.proofs.TakenLemmas.{file_taken}
use Rattle.dsv_syntax.proofs.law.grammar_is_read.Goals as goal

pub returns-clause-read : goal.returns-clause-read
returns-clause-read c = file_read

pub returns-clause-taken : goal.returns-clause-taken
returns-clause-taken c = file_taken
