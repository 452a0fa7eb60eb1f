use Rattle.std.proofs.Common.{arith}
use Rattle.dsv_gain.proofs.ErrorLoops.{shown_of, nothing_of}
use Rattle.dsv_gain.proofs.error_ranges.error_of.Goals as goal

pub returns-in_default : goal.returns-in_default
returns-in_default c =
    nothing_of c.args.net.now c.args.offer.now c.in_ok-network.network c.in_ok-starts.starts (grind arith) (grind arith) (grind (arith, c.in_ok-ranges.ensures, c.in_default.not-Some))

pub returns : goal.returns
returns c =
    shown_of c.args.net.now c.args.offer.now c.in_ok-network.network c.in_ok-starts.starts c.in-Some.ranges c.in_ok-list.list c.kept_range.result (grind arith) (grind arith)
    (grind (arith, c.in_ok-ranges.ensures, c.in-Some.is)) (grind (arith, c.in_ok-list.ensures)) (grind (arith, c.kept_range.ensures))
