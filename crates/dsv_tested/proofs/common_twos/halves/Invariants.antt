use Rattle.std.proofs.Common.{◌≡◌, ◌++◌, drop, length, map, pos}
use Rattle.std.specs.Int.{int_div_euclid}
use Rattle.dsv_tested.proofs.common_twos.halves.Given as goal

abbrev pub invariant-loop-c : goal.invariant-loop-c
invariant-loop-c l = record {
  places : length l.halves.items ≡ l.c-index;
  same : l.halves.items ++ map (λ c. int_div_euclid c (pos 2)) (drop l.c-index l.list)
      ≡ map (λ c. int_div_euclid c (pos 2)) l.list;
}
