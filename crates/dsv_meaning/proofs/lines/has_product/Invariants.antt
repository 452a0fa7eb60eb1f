use Rattle.std.proofs.Common.{◌≡◌, drop}
use Rattle.dsv_meaning.specs.Lines.{has_product}
use Rattle.dsv_meaning.proofs.lines.has_product.Given as goal

abbrev pub invariant-loop-summand : goal.invariant-loop-summand
invariant-loop-summand l = record {
  same : has_product (drop l.summand-index l.summands) ≡ has_product l.summands;
}
