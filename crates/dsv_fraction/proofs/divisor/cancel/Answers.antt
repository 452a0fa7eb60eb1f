use Rattle.dsv_fraction.proofs.Lowest.{cancels}
use Rattle.dsv_fraction.proofs.divisor.cancel.Goals as goal

pub returns-clause-parts : goal.returns-clause-parts
returns-clause-parts c = cancels _ _ _ c.requires c.common_divisor-common.ensures.divides
