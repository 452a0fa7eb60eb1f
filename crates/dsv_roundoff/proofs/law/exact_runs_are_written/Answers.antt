use Rattle.dsv_roundoff.proofs.WrittenRuns.{exact_runs_written}
use Rattle.dsv_roundoff.proofs.law.exact_runs_are_written.Goals as goal

pub returns : goal.returns
returns c = exact_runs_written
