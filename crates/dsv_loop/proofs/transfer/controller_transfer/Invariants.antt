use Rattle.std.proofs.Common.{◌≡◌, ◌-◌, drop, length, All}
use Rattle.dsv_quantiser.specs.QuantisedView.{IsQuantisedView}
use Rattle.dsv_loop.specs.Loops.{controller_transfer}
use Rattle.dsv_loop.proofs.transfer.controller_transfer.Given as goal

abbrev pub invariant-loop-turn : goal.invariant-loop-turn
invariant-loop-turn l = record {
  same : l.transfer ≡ controller_transfer (drop (length l.sections - l.turn) l.sections);
  quantised : All IsQuantisedView (drop (length l.sections - l.turn) l.sections);
}
