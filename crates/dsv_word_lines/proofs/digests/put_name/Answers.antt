use Rattle.std.specs.Prelude.{codes}
use Rattle.dsv_base.proofs.TakingLemmas.{writes_after, writes_cut}
use Rattle.dsv_word_lines.proofs.digests.put_name.Goals as goal

pub returns-in_err-put_shown : goal.returns-in_err-put_shown
returns-in_err-put_shown g c = writes_cut (codes "\n") c.from_residual.ensures.0 c.in_err-put_shown.ensures.cut

pub returns : goal.returns
returns g c = writes_after c.in_ok-put_shown.ensures.whole c.put_all.ensures
