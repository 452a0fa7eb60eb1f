use Rattle.dsv_cli.proofs.OneAnswerLemmas.{one_answer}
use Rattle.dsv_cli.proofs.law.told_files_have_one_answer.Goals as goal

pub returns : goal.returns
returns c = one_answer
