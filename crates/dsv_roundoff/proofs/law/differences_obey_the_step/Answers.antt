use Rattle.dsv_roundoff.proofs.Differences.{differences_obey}
use Rattle.dsv_roundoff.proofs.law.differences_obey_the_step.Goals as goal

pub returns : goal.returns
returns c = differences_obey
