use Rattle.dsv_roundoff.proofs.Controllers.{written_runs_exist}
use Rattle.dsv_roundoff.proofs.law.written_runs_exist.Goals as goal

pub returns : goal.returns
returns c = written_runs_exist
