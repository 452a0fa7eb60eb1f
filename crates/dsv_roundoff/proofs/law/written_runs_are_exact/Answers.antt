use Rattle.dsv_roundoff.proofs.Controllers.{written_runs_exact}
use Rattle.dsv_roundoff.proofs.law.written_runs_are_exact.Goals as goal

pub returns : goal.returns
returns c = written_runs_exact
