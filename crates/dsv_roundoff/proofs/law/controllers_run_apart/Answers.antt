use Rattle.dsv_roundoff.proofs.Controllers.{controllers_apart}
use Rattle.dsv_roundoff.proofs.law.controllers_run_apart.Goals as goal

pub returns : goal.returns
returns c = controllers_apart
