use Rattle.dsv_faults.proofs.PlantFaultLaws.{first_plant_faults}
use Rattle.dsv_faults.proofs.law.first_plant_faults_are_read.Goals as goal

pub returns : goal.returns
returns c = first_plant_faults
