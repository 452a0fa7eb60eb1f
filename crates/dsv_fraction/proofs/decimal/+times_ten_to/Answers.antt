use Rattle.dsv_fraction.proofs.Powers.{unit_is, ten_given, ten_refused}
use Rattle.dsv_fraction.proofs.decimal.+times_ten_to.Goals as goal

pub returns-then-count-eq0 : goal.returns-then-count-eq0
returns-then-count-eq0 t c = unit_is c.args.number.now c.args.count c.requires c.if-count-eq0.true

pub returns-in_err-times_ten_to : goal.returns-in_err-times_ten_to
returns-in_err-times_ten_to t c = ten_refused c.requires c.if-count-eq0.false c.in_err-times_ten_to.ensures c.from_residual.ensures.0

pub returns : goal.returns
returns t c = ten_given c.requires c.if-count-eq0.false c.in_ok-times_ten_to.ensures c.whole_number.ensures c.mul.ensures.exact
