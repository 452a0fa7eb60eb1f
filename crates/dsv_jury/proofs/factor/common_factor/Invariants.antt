use Rattle.std.proofs.Common.{◌≡◌, drop}
use Rattle.dsv_jury.specs.CommonFactor.{common_factor, factor_with}
use Rattle.dsv_jury.proofs.factor.common_factor.Given as goal

abbrev pub invariant-loop-number : goal.invariant-loop-number
invariant-loop-number l = factor_with l.factor (drop l.number-index l.numbers) ≡ common_factor l.numbers
