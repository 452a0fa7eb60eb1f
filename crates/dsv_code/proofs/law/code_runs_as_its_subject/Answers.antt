use Rattle.dsv_code.proofs.Runs.{code_law}
use Rattle.dsv_code.proofs.law.code_runs_as_its_subject.Goals as goal

pub returns : goal.returns
returns c = code_law
