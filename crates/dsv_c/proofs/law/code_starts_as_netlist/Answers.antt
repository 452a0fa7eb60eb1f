use Rattle.dsv_c.proofs.Steps.{code_starts}
use Rattle.dsv_c.proofs.law.code_starts_as_netlist.Goals as goal

pub returns : goal.returns
returns c = code_starts
