use Rattle.std.proofs.Common.{length, arith, rules}
use Rattle.std.specs.Prelude.{◌+ℤ◌}
use Rattle.dsv_netlist.specs.Nodes.{at}
use Rattle.dsv_linear.proofs.Entries.{entries_stop}
use Rattle.dsv_network.specs.Samples.{kept, part_of}
use Rattle.dsv_network.proofs.weights.Part.part_sums.Goals as goal

pub returns-in_default : goal.returns-in_default
returns-in_default c =
    entries_stop (λ j. kept c.args.pass.now.count c.args.old.now j +ℤ part_of c.args.self c.args.d (at c.args.form.now j)) c.loop-j.j (length c.args.pass.now.ranges) c.loop-j.list
    (omega arith) c.loop-j.invariant (search rules)
