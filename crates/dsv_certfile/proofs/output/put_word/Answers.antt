use Rattle.dsv_base.proofs.TakingLemmas.{writes_after}
use Rattle.dsv_certfile.proofs.LineTexts.{writes_as, word-text}
use Rattle.dsv_certfile.specs.Keywords.{keyword_text}
use Rattle.dsv_certfile.proofs.output.put_word.Goals as goal

pub returns : goal.returns
returns g c = writes_as (word-text (keyword_text c.args.word)) (writes_after (rw c.text.ensures at c.in_ok-put_all.ensures.whole) c.put_all-2.ensures)
