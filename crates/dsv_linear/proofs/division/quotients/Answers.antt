use Rattle.std.proofs.Common.{arith, rules}
use Rattle.dsv_algebra.specs.Floor.{floor_of}
use Rattle.dsv_netlist.specs.Nodes.{at}
use Rattle.dsv_linear.proofs.Entries.{entries_stop}
use Rattle.dsv_linear.proofs.division.quotients.Goals as goal

pub returns-in_default : goal.returns-in_default
returns-in_default c = entries_stop (λ j. floor_of (at c.args.form.now j) c.args.d) c.loop-j.j c.args.count c.loop-j.list (omega arith) c.loop-j.invariant (search rules)
