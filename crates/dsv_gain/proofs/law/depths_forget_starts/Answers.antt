use Rattle.dsv_gain.proofs.GainLaws.{depths_forget}
use Rattle.dsv_gain.proofs.law.depths_forget_starts.Goals as goal

pub returns : goal.returns
returns c = depths_forget
