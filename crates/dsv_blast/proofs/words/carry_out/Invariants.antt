use Rattle.std.proofs.Common.{◌≡◌, ◌<◌, drop}
use Rattle.dsv_cnf.specs.Formula.{IsOver}
use Rattle.dsv_blast.specs.Words.{carry_from}
use Rattle.dsv_blast.proofs.words.carry_out.Given as goal

abbrev pub invariant-loop-i : goal.invariant-loop-i
invariant-loop-i l = record {
  first : IsOver l.circuit.formula.vars l.first;
  second : IsOver l.circuit.formula.vars l.second;
  carried : l.carry.var < l.circuit.formula.vars;
  rest : carry_from (drop l.i l.first) (drop l.i l.second) l.carry l.circuit ≡ carry_from l.first l.second l.fn.carry l.fn.circuit;
}
