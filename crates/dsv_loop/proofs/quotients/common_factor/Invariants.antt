use Rattle.std.proofs.Common.{◌≡◌, drop, pos, unsigned_abs}
use Rattle.dsv_loop.specs.Loops.{factor_with}
use Rattle.dsv_loop.proofs.quotients.common_factor.Given as goal

abbrev pub invariant-loop-number : goal.invariant-loop-number
invariant-loop-number l = record {
  whole : l.factor ≡ pos (unsigned_abs l.factor);
  same : factor_with (unsigned_abs l.factor) (drop l.number-index l.list) ≡ factor_with 0 l.list;
}
