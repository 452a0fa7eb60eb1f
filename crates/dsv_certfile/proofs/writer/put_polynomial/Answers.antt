use Rattle.dsv_certfile.specs.Texts.{coefficient_line}
use Rattle.dsv_certfile.proofs.LineTexts.{writes_as, lines-map}
use Rattle.dsv_certfile.proofs.writer.put_polynomial.Goals as goal

pub returns : goal.returns
returns g c = writes_as (lines-map coefficient_line c.args.coefficients.now) c.put_each_coefficient.ensures
