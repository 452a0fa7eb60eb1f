use Rattle.dsv_fraction.proofs.Powers.{units_is, tenth_given, tenth_refused}
use Rattle.dsv_fraction.proofs.decimal.+over_ten_to.Goals as goal

pub returns-then-count-eq0 : goal.returns-then-count-eq0
returns-then-count-eq0 t c = units_is c.args.number.now c.args.count c.requires c.if-count-eq0.true

pub returns-in_err-over_ten_to : goal.returns-in_err-over_ten_to
returns-in_err-over_ten_to t c = tenth_refused c.requires c.if-count-eq0.false c.in_err-over_ten_to.ensures c.from_residual.ensures.0

pub returns : goal.returns
returns t c = tenth_given c.requires c.if-count-eq0.false c.in_ok-over_ten_to.ensures c.tenth.ensures c.mul.ensures.exact
