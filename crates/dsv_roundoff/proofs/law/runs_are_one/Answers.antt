use Rattle.dsv_roundoff.proofs.Existence.{runs_are_one}
use Rattle.dsv_roundoff.proofs.law.runs_are_one.Goals as goal

pub returns : goal.returns
returns c = runs_are_one
