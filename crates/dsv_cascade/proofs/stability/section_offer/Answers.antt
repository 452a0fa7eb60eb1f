use Rattle.std.proofs.Common.{rules}
use Rattle.dsv_cascade.proofs.GreatNumbers.{not_all_within}
use Rattle.dsv_cascade.proofs.stability.section_offer.Goals as goal

pub first_over-requires-clause-over : goal.first_over-requires-clause-over
first_over-requires-clause-over c = λ all. not_all_within c.in-Ok.poly (search rules) (search rules) c.in-None.ensures.none (search rules)
