use Rattle.std.proofs.Common.{◌≡◌, ◌*◌, ◌^◌, ◌≤◌, drop}
use Rattle.dsv_word.specs.Words.{width}
use Rattle.dsv_term.specs.Growth.{AreSound}
use Rattle.dsv_unroll.specs.SetGoals.{combination_from}
use Rattle.dsv_unroll.specs.Ready.{IsValue, AreAllValues}
use Rattle.dsv_unroll.proofs.sets.combination_term.Given as goal

abbrev pub invariant-loop-k : goal.invariant-loop-k
invariant-loop-k l = record {
  sound : AreSound l.terms;
  value : IsValue l.terms l.sum.id;
  registers : AreAllValues l.terms l.registers;
  room : l.sum.bound ≤ 2 ^ 71 * l.k;
  same : combination_from (width l.format) (record { terms = l.terms; id = l.sum.id; bound = l.sum.bound }) (drop l.k l.coefficients) (drop l.k l.registers)
      ≡ combination_from (width l.format) (record { terms = l.fn.terms; id = l.fn.zero_bit; bound = 0 }) l.coefficients l.registers;
}
