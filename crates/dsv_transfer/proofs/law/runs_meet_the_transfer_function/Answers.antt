use Rattle.dsv_transfer.proofs.Transfers.{runs_meet}
use Rattle.dsv_transfer.proofs.law.runs_meet_the_transfer_function.Goals as goal

pub returns : goal.returns
returns c = runs_meet
