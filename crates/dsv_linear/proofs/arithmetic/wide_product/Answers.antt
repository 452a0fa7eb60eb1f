use Rattle.std.proofs.Common.{length, arith, rules}
use Rattle.std.specs.Prelude.{◌*ℤ◌}
use Rattle.dsv_netlist.specs.Nodes.{at}
use Rattle.dsv_linear.proofs.Entries.{entries_stop}
use Rattle.dsv_linear.proofs.arithmetic.wide_product.Goals as goal

pub returns-in_default : goal.returns-in_default
returns-in_default c =
    entries_stop (λ j. c.args.c *ℤ at c.args.of.now j) c.loop-j.j (length c.args.of.now) c.loop-j.list
    (omega arith) c.loop-j.invariant (search rules)
