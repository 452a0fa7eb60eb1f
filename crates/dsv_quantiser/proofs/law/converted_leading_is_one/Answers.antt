use Rattle.dsv_quantiser.proofs.Leading.{leading_is_one}
use Rattle.dsv_quantiser.proofs.law.converted_leading_is_one.Goals as goal

pub returns : goal.returns
returns c = leading_is_one
