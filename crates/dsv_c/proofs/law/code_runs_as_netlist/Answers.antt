use Rattle.dsv_c.proofs.Steps.{code_runs}
use Rattle.dsv_c.proofs.law.code_runs_as_netlist.Goals as goal

pub returns : goal.returns
returns c = code_runs
