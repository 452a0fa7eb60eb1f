use Rattle.dsv_roundoff.proofs.Existence.{runs_exist}
use Rattle.dsv_roundoff.proofs.law.runs_exist.Goals as goal

pub returns : goal.returns
returns c = runs_exist
