use Rattle.dsv_cli.proofs.Exact.{come_exactly}
use Rattle.dsv_cli.proofs.law.refusals_come_exactly.Goals as goal

pub returns : goal.returns
returns c = come_exactly
