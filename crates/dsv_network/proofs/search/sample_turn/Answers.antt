use Rattle.std.proofs.Common.{◌∙◌, sym}
use Rattle.dsv_network.proofs.Loops.{turn_is}
use Rattle.dsv_network.proofs.search.sample_turn.Goals as goal

pub returns-in_ok-ranges-in-Words-step : goal.returns-in_ok-ranges-in-Words-step
returns-in_ok-ranges-in-Words-step c =
    turn_is c.args.nodes.now c.args.next.now c.args.sample c.args.search c.add_sample.new.pass c.in-Words.now c.in_ok-seen.seen c.in-Words-step.last c.in_ok-ranges-in-Words-step.ranges
    c.has_settled-settled.result c.gain_at.result c.gain_turn.result (sym c.in_ok-run.ensures.run ∙ c.in-Words.is) (sym c.in_ok-run.ensures.step ∙ c.in-Words-step.is)
    c.in_ok-run.ensures.pass c.in_ok-seen.ensures c.has_settled-settled.ensures c.in_ok-ranges-in-Words-step.ensures c.gain_at.ensures c.gain_turn.ensures
