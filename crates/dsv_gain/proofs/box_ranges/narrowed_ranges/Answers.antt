use Rattle.std.proofs.Common.{arith}
use Rattle.dsv_gain.specs.Narrowing.{narrowed, most_passes}
use Rattle.dsv_gain.proofs.NarrowingLoops.{narrowed_more}
use Rattle.dsv_gain.proofs.box_ranges.narrowed_ranges.Goals as goal

pub loop-preserved : goal.loop-preserved
loop-preserved c =
    let s = c.args.subject.now in
    narrowed_more s.net.now s.low s.high c.args.limit most_passes c.loop.counter c.loop.list c.in-Some.narrower (narrowed most_passes s.net.now s.low s.high c.args.limit c.args.ranges) (omega arith) c.loop.invariant
    (grind (arith, c.in_ok-narrower.ensures, c.in-Some.is))
