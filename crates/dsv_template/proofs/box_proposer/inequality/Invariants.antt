-- The coefficients of the registers so far.
use Rattle.std.proofs.Common.{◌≡◌, length}
use Rattle.dsv_template.specs.Boxes.{units}
use Rattle.dsv_template.proofs.box_proposer.inequality.Given as goal

abbrev pub invariant-loop-place : goal.invariant-loop-place
invariant-loop-place l = record {
  same : l.coefficients.items ≡ units l.register l.c l.place;
  many : length l.coefficients.items ≡ l.place;
}
