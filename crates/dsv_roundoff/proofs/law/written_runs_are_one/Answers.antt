use Rattle.dsv_roundoff.proofs.OneWrittenRun.{written_runs_one}
use Rattle.dsv_roundoff.proofs.law.written_runs_are_one.Goals as goal

pub returns : goal.returns
returns c = written_runs_one
