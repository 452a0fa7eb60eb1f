use Rattle.dsv_base.proofs.TakingLemmas.{writes_after, writes_cut}
use Rattle.dsv_word_lines.specs.Digests.{name_text}
use Rattle.dsv_word_lines.proofs.digests.put_digest.Goals as goal

pub returns-in_err-put_digits : goal.returns-in_err-put_digits
returns-in_err-put_digits g c = writes_cut (name_text c.args.name.now) c.from_residual.ensures.0 c.in_err-put_digits.ensures.cut

pub returns : goal.returns
returns g c = writes_after c.in_ok-put_digits.ensures.whole (rw c.as_bytes.ensures.value at c.put_name.ensures)
