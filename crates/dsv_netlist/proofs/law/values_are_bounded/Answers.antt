use Rattle.dsv_netlist.proofs.Runs.{values_bounded}
use Rattle.dsv_netlist.proofs.law.values_are_bounded.Goals as goal

pub returns : goal.returns
returns c = values_bounded
