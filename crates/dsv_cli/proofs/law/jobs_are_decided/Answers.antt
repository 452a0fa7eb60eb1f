use Rattle.dsv_cli.proofs.Completeness.{all_decided}
use Rattle.dsv_cli.proofs.law.jobs_are_decided.Goals as goal

pub returns : goal.returns
returns c = all_decided
