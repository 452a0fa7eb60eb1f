use Rattle.std.specs.Fmt.{signed_decimal}
use Rattle.dsv_certfile.proofs.LineTexts.{writes_as, line-map}
use Rattle.dsv_certfile.specs.Keywords.{keyword_text}
use Rattle.dsv_certfile.proofs.output.put_numbers.Goals as goal

pub returns : goal.returns
returns g c = writes_as (line-map signed_decimal (keyword_text c.args.word) c.args.numbers.now) (rw c.text.ensures at c.put_line.ensures)
