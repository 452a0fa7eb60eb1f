use Rattle.dsv_tested.proofs.CommonTwos.{common_twos_reduced}
use Rattle.dsv_tested.proofs.law.common_twos_are_taken_out.Goals as goal

pub returns : goal.returns
returns c = common_twos_reduced
