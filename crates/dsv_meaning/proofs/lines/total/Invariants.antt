use Rattle.std.proofs.Common.{◌≡◌, ◌*◌, ◌^◌, drop}
use Rattle.std.proofs.Math.IntN.{pos, neg_ℤ, ◌+ℤ◌}
use lib.Signed.{◌≤ℤ◌}
use Rattle.dsv_meaning.specs.Lines.{total}
use Rattle.dsv_meaning.proofs.lines.total.Given as goal

abbrev pub invariant-loop-summand : goal.invariant-loop-summand
invariant-loop-summand l = record {
  same : l.total +ℤ total l.format (drop l.summand-index l.summands) ≡ total l.format l.summands;
  low : neg_ℤ (pos (l.summand-index * 2 ^ 111)) ≤ℤ l.total;
  high : l.total ≤ℤ pos (l.summand-index * 2 ^ 111);
}
