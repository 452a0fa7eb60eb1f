use Rattle.std.proofs.Common.{length, arith, rules}
use Rattle.std.specs.Prelude.{◌-ℤ◌}
use Rattle.dsv_netlist.specs.Nodes.{at}
use Rattle.dsv_linear.specs.Forms.{longer}
use Rattle.dsv_linear.proofs.Entries.{entries_stop}
use Rattle.dsv_linear.proofs.arithmetic.wide_difference.Goals as goal

pub returns-in_default : goal.returns-in_default
returns-in_default c =
    entries_stop (λ j. at c.args.left.now j -ℤ at c.args.right.now j) c.loop-j.j (longer (length c.args.left.now) (length c.args.right.now)) c.loop-j.list
    (omega arith) c.loop-j.invariant (search rules)
