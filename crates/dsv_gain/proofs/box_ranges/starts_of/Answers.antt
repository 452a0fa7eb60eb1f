use Rattle.std.proofs.Common.{length, arith}
use Rattle.dsv_gain.specs.Narrowing.{starts_of}
use Rattle.dsv_gain.proofs.NarrowingLoops.{held_more, held_stop}
use Rattle.dsv_gain.proofs.box_ranges.starts_of.Goals as goal

pub returns-in_default : goal.returns-in_default
returns-in_default c =
    let net = c.args.net.now in
    let input = c.args.input.now in
    let fitted = c.args.fitted.now in
    held_stop input net.nodes net.next fitted c.loop.list (length net.next) c.loop.counter (starts_of net input fitted) (omega (arith, c.registers-end.ensures)) c.loop.invariant
    (grind (arith, c.in_ok-more.ensures, c.in_default.not-Some))

pub loop-preserved : goal.loop-preserved
loop-preserved c =
    let net = c.args.net.now in
    let input = c.args.input.now in
    let fitted = c.args.fitted.now in
    held_more input net.nodes net.next fitted c.loop.list c.in-Some.more (length net.next) c.loop.counter (starts_of net input fitted) (omega (arith, c.registers-end.ensures)) c.loop.invariant
    (grind (arith, c.in_ok-more.ensures, c.in-Some.is))
