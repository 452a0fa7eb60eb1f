use Rattle.std.proofs.Common.{arith}
use Rattle.dsv_gain.proofs.NarrowingLoops.{found_of}
use Rattle.dsv_gain.proofs.box_ranges.box_ranges.Goals as goal

pub returns : goal.returns
returns c =
    let s = c.args.subject.now in
    found_of s.net.now s.low s.high c.args.limit c.args.list.now c.in-Some.symbols c.in_ok-network.network c.in_ok-found.found c.input_range.result c.kept_ranges.result
    (grind (arith, c.in_ok-symbols.ensures, c.in-Some.is)) c.in_ok-network.ensures c.in_ok-found.ensures c.input_range.ensures c.kept_ranges.ensures
