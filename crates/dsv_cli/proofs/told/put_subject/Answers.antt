use Rattle.dsv_base.proofs.TakingLemmas.{writes_after}
use Rattle.dsv_cli.proofs.told.put_subject.Goals as goal

pub returns : goal.returns
returns g c = writes_after c.in_ok-put_words.ensures.whole c.put_timing.ensures
