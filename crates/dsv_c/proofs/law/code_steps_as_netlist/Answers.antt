use Rattle.dsv_c.proofs.Steps.{code_steps}
use Rattle.dsv_c.proofs.law.code_steps_as_netlist.Goals as goal

pub returns : goal.returns
returns c = code_steps
