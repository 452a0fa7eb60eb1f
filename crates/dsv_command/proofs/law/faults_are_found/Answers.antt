use Rattle.dsv_command.proofs.FaultLaws.{fault_found}
use Rattle.dsv_command.proofs.law.faults_are_found.Goals as goal

pub returns : goal.returns
returns c = fault_found
