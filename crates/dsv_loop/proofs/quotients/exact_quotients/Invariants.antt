use Rattle.std.proofs.Common.{◌≡◌, map, take}
use Rattle.std.specs.Int.{int_div_euclid}
use Rattle.dsv_loop.proofs.quotients.exact_quotients.Given as goal

abbrev pub invariant-loop-number : goal.invariant-loop-number
invariant-loop-number l = l.quotients ≡ map (λ c. int_div_euclid c l.divisor) (take l.number-index l.list)
