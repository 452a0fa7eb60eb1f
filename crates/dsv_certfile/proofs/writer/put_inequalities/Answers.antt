use Rattle.dsv_certfile.specs.Texts.{inequality_line}
use Rattle.dsv_certfile.proofs.LineTexts.{writes_as, lines-map}
use Rattle.dsv_certfile.proofs.writer.put_inequalities.Goals as goal

pub returns-clause-text : goal.returns-clause-text
returns-clause-text g c = writes_as (lines-map inequality_line c.args.candidate.now.inequalities.items) (rw c.as_slice.ensures.value at c.put_each_inequality.ensures.text)
