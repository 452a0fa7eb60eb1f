use Rattle.std.proofs.Common.{refl}
use Rattle.dsv_loop.proofs.transfer.section_transfer.Goals as goal

pub returns-clause-value : goal.returns-clause-value
returns-clause-value c = rw (c.in_ok-b.ensures, c.in_ok-a.ensures, c.b.ensures.same, c.a.ensures.same) refl
