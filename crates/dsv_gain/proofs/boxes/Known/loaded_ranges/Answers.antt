use Rattle.std.proofs.Common.{◌≡◌, ℕ, get_or, arith, sym}
use Rattle.std.specs.Prelude.{Option, Some, None}
use Rattle.dsv_linear.specs.declared.range.Range.{Range}
use Rattle.dsv_gain.specs.Boxes.{range_in}
use Rattle.dsv_gain.proofs.NarrowingLoops.{all_more, all_stop}
use Rattle.dsv_gain.proofs.boxes.Known.loaded_ranges.Goals as goal

pub returns-in_default : goal.returns-in_default
returns-in_default c =
    let known = c.args.self.now in
    let make : ℕ → Option Range = range_in known.input known.registers.now known.fitted.now c.args.nodes.now in
    let none : make (get_or c.args.next.now c.loop-i.i-index 0) ≡ None = grind (arith, c.range_in.ensures, c.in_default.not-Some) in
    sym (all_stop make c.args.next.now 0 c.loop-i.i-index (omega arith) none)

pub loop-i-preserved : goal.loop-i-preserved
loop-i-preserved c =
    let known = c.args.self.now in
    let make : ℕ → Option Range = range_in known.input known.registers.now known.fitted.now c.args.nodes.now in
    let made : make (get_or c.args.next.now c.loop-i.i-index 0) ≡ Some c.in-Some.range = grind (arith, c.range_in.ensures, c.in-Some.is) in
    all_more make c.args.next.now 0 c.loop-i.i-index c.loop-i.loaded c.push.new.self c.in-Some.range (omega arith) c.loop-i.invariant made (grind arith)
