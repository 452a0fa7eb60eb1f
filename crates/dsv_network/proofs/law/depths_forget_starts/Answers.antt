use Rattle.dsv_network.proofs.Forgetting.{depths_forget}
use Rattle.dsv_network.proofs.law.depths_forget_starts.Goals as goal

pub returns : goal.returns
returns c = depths_forget
