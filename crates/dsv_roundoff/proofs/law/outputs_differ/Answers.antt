use Rattle.dsv_roundoff.proofs.Differences.{outputs_differ}
use Rattle.dsv_roundoff.proofs.law.outputs_differ.Goals as goal

pub returns : goal.returns
returns c = outputs_differ
