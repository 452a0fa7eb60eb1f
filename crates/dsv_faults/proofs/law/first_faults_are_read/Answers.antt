use Rattle.dsv_faults.proofs.FaultLaws.{first_faults}
use Rattle.dsv_faults.proofs.law.first_faults_are_read.Goals as goal

pub returns : goal.returns
returns c = first_faults
