use Rattle.dsv_gain.proofs.GainLaws.{gains_again}
use Rattle.dsv_gain.proofs.law.gains_are_found_again.Goals as goal

pub returns : goal.returns
returns c = gains_again
