use Rattle.dsv_c.proofs.Steps.{code_values}
use Rattle.dsv_c.proofs.law.code_values_as_netlist.Goals as goal

pub returns : goal.returns
returns c = code_values
