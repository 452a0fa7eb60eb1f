use Rattle.std.proofs.Common.{arith}
use Rattle.dsv_netlist.proofs.Naming.{names_word-below}
use Rattle.dsv_cascade.proofs.netlist.series_net.Goals as goal

pub place_after-output-requires : goal.place_after-output-requires
place_after-output-requires c =
    let second = c.args.second.now in
    omega (arith, names_word-below second.nodes second.output c.requires.second.output, c.requires.second.few_nodes)
