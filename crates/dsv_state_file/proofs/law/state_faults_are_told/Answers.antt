use Rattle.dsv_state_file.proofs.BegunFiles.{begun}
use Rattle.dsv_state_file.proofs.FaultLaws.{faults_are_told}
use Rattle.dsv_state_file.proofs.law.state_faults_are_told.Goals as goal

pub returns-clause-told : goal.returns-clause-told
returns-clause-told c = faults_are_told

pub returns-clause-begun : goal.returns-clause-begun
returns-clause-begun c = begun
