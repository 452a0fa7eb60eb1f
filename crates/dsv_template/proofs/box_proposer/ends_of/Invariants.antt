-- The ends of the registers so far.
use Rattle.std.proofs.Common.{◌≡◌, ◌*◌, length}
use Rattle.dsv_template.specs.Boxes.{ends_of}
use Rattle.dsv_template.proofs.box_proposer.ends_of.Given as goal

abbrev pub invariant-loop-register : goal.invariant-loop-register
invariant-loop-register l = record {
  same : l.inequalities.items ≡ ends_of l.shape l.bits l.register;
  many : length l.inequalities.items ≡ 2 * l.register;
}
