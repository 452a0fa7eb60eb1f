use Rattle.dsv_fraction.proofs.Values.{difference_value}
use Rattle.dsv_fraction.proofs.fraction.Frac.sub.Goals as goal

pub returns-clause-value : goal.returns-clause-value
returns-clause-value c = difference_value c.args.self.now c.args.other.now c.add.result (rw c.neg.ensures at c.add.ensures.value)
