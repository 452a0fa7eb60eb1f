use Rattle.std.proofs.Common.{arith, ◌∙◌, sym}
use Rattle.dsv_network.specs.Gains.{gain_from}
use Rattle.dsv_network.proofs.Loops.{search_more, search_over}
use Rattle.dsv_network.proofs.search.gain_from.Goals as goal

pub returns-in-Over : goal.returns-in-Over
returns-in-Over c =
    search_over c.args.nodes.now c.args.next.now c.args.limit c.loop-sample.sample c.loop-sample.search c.in-Over.outlook
    (gain_from c.args.nodes.now c.args.next.now c.args.limit 0 c.args.search) (omega arith) c.loop-sample.invariant (sym c.in-Over.is ∙ c.in_ok-outlook.ensures)

pub loop-sample-preserved : goal.loop-sample-preserved
loop-sample-preserved c =
    search_more c.args.nodes.now c.args.next.now c.args.limit c.loop-sample.sample c.loop-sample.search c.in-Next.later
    (gain_from c.args.nodes.now c.args.next.now c.args.limit 0 c.args.search) (omega arith) c.loop-sample.invariant (sym c.in-Next.is ∙ c.in_ok-outlook.ensures)
