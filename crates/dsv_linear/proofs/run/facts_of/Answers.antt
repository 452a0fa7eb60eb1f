use Rattle.std.proofs.Common.{to_z, of_z}
use Rattle.std.specs.Int.{w64}
use Rattle.std.proofs.lemmas.Int.{to_z-of_z}
use Rattle.dsv_linear.proofs.Runs.{facts_made, made_hold}
use Rattle.dsv_linear.proofs.run.facts_of.Goals as goal

pub returns-clause-made : goal.returns-clause-made
returns-clause-made c =
    facts_made c.args.net.now c.args.low c.args.high (to_z w64 (of_z w64 c.args.low)) (to_z w64 (of_z w64 c.args.high)) c.args.samples c.in_ok-start.start c.no_point.result c.facts_from.result
    c.in_ok-start.ensures (to_z-of_z w64 c.args.low c.ranges.low) (to_z-of_z w64 c.args.high c.ranges.high) c.no_point.ensures c.facts_from.ensures

pub returns-clause-holds : goal.returns-clause-holds
returns-clause-holds c = made_hold c.args.net.now c.args.low c.args.high c.args.samples c.facts_from.result (returns-clause-made c)
