use Rattle.std.proofs.Common.{arith, rules}
use Rattle.std.specs.Prelude.{pos}
use Rattle.std.specs.Int.{int_rem_euclid}
use Rattle.dsv_netlist.specs.Nodes.{at}
use Rattle.dsv_linear.proofs.Entries.{entries_stop}
use Rattle.dsv_linear.proofs.division.rests.Goals as goal

pub returns-in_default : goal.returns-in_default
returns-in_default c = entries_stop (λ j. int_rem_euclid (at c.args.form.now j) (pos c.args.d)) c.loop-j.j c.args.count c.loop-j.list (omega arith) c.loop-j.invariant (search rules)
