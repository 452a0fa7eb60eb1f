use Rattle.dsv_certfile.specs.Texts.{step_line}
use Rattle.dsv_certfile.proofs.LineTexts.{writes_as, lines-map}
use Rattle.dsv_certfile.proofs.output.put_log.Goals as goal

pub returns-clause-text : goal.returns-clause-text
returns-clause-text g c = writes_as (lines-map step_line c.args.log.now) (rw c.as_slice.ensures at c.put_steps.ensures.text)
