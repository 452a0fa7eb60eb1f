use Rattle.dsv_certfile.specs.Texts.{range_line}
use Rattle.dsv_certfile.proofs.LineTexts.{writes_as, lines-map}
use Rattle.dsv_certfile.proofs.writer.put_box.Goals as goal

pub returns : goal.returns
returns g c = writes_as (lines-map range_line c.args.offer.now.ranges) (rw c.as_slice.ensures at c.put_each_range.ensures)
