use Rattle.dsv_unroll.proofs.PlainGoals.{facts_keep_root}
use Rattle.dsv_unroll.proofs.law.facts_keep_root.Goals as goal

pub returns : goal.returns
returns c = facts_keep_root
