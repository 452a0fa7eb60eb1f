use Rattle.std.proofs.Common.{arith, sym}
use Rattle.dsv_netlist.specs.declared.node.Node.TheVariants.{Input}
use Rattle.dsv_gain.proofs.BoxLoops.{none_before, few_fits, fits_more}
use Rattle.dsv_gain.proofs.boxes.fits_before.Goals as goal

pub loop-k-init : goal.loop-k-init
loop-k-init c = sym (none_before c.args.nodes.now)

pub loop-k-preserved : goal.loop-k-preserved
loop-k-preserved c = fits_more c.args.nodes.now Input c.loop-k.k c.loop-k.count c.count_after-count.result (omega arith) c.loop-k.invariant (grind arith)

pub count_after-count-requires : goal.count_after-count-requires
count_after-count-requires c = let few = few_fits c.args.nodes.now c.loop-k.k in let i = c.loop-k.invariant in omega (arith, few, i)
