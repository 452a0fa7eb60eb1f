use Rattle.dsv_apart.proofs.Apart.{nothing_both}
use Rattle.dsv_apart.proofs.law.nothing_is_both.Goals as goal

pub returns : goal.returns
returns c = nothing_both
