use Rattle.dsv_fraction.proofs.Powers.{over_one}
use Rattle.dsv_fraction.proofs.fraction.Frac.whole_number.Goals as goal

pub of_sizes-requires-clause-coprime : goal.of_sizes-requires-clause-coprime
of_sizes-requires-clause-coprime c = over_one c.args.size
