use Rattle.std.proofs.Common.{◌≡◌, arith, sym, ap, ◌∙◌}
use Rattle.std.specs.Prelude.{Some, None}
use Rattle.dsv_linear.specs.Forms.{scaled_range}
use Rattle.dsv_gain.proofs.NarrowingLoops.{all_more, all_stop}
use Rattle.dsv_gain.proofs.box_ranges.symbols_of.Goals as goal

pub returns-in_default : goal.returns-in_default
returns-in_default c =
    let r = c.range-item.result in
    let none : c.scaled_range.result ≡ None = grind (arith, c.in_default.not-Some) in
    sym (all_stop scaled_range c.args.list.now r c.loop-range.range-index (omega arith) (ap scaled_range (sym c.range-item.is) ∙ sym c.scaled_range.ensures ∙ none))

pub loop-range-preserved : goal.loop-range-preserved
loop-range-preserved c =
    let r = c.range-item.result in
    let some : c.scaled_range.result ≡ Some c.in-Some.symbol = grind (arith, c.in-Some.is) in
    all_more scaled_range c.args.list.now r c.loop-range.range-index c.loop-range.symbols c.push.new.self c.in-Some.symbol (omega arith) c.loop-range.invariant (ap scaled_range (sym c.range-item.is) ∙ sym c.scaled_range.ensures ∙ some) (grind arith)
