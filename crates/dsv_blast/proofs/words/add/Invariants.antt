use Rattle.std.proofs.Common.{◌≡◌, ◌<◌, ◌≤◌, [], drop, length}
use Rattle.dsv_cnf.specs.Formula.{IsOver}
use Rattle.dsv_blast.specs.Words.{add_from}
use Rattle.dsv_blast.proofs.words.add.Given as goal

abbrev pub invariant-loop-i : goal.invariant-loop-i
invariant-loop-i l = record {
  first : IsOver l.circuit.formula.vars l.first;
  second : IsOver l.circuit.formula.vars l.second;
  carried : l.carry.var < l.circuit.formula.vars;
  over : IsOver l.circuit.formula.vars l.sum;
  width : length l.sum ≡ l.i;
  longer : l.fn.circuit.formula.vars ≤ l.circuit.formula.vars;
  rest : add_from (drop l.i l.first) (drop l.i l.second) l.carry l.circuit l.sum ≡ add_from l.first l.second l.fn.carry l.fn.circuit [];
}
