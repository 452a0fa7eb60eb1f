use Rattle.dsv_loop.proofs.Recursions.{loop_obeys, loop_solves}
use Rattle.dsv_loop.proofs.law.loop_is_its_recursion.Goals as goal

pub returns : goal.returns
returns c = record { obeys = loop_obeys; solves = loop_solves }
