use Rattle.std.proofs.Common.{arith}
use Rattle.std.proofs.lemmas.Grind.{common_steps}
use Rattle.dsv_netlist.proofs.Naming.{names_word-get_or, names_word-outside}
use Rattle.dsv_netlist.proofs.conditions.names_word.Goals as goal

pub returns-in-Some : goal.returns-in-Some
returns-in-Some c = grind (arith, common_steps, names_word-get_or)

pub returns-in-None : goal.returns-in-None
returns-in-None c = grind (arith, common_steps, names_word-outside)
