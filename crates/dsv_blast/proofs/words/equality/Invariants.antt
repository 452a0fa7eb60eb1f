use Rattle.std.proofs.Common.{◌≡◌, ◌<◌, drop}
use Rattle.dsv_cnf.specs.Formula.{IsOver}
use Rattle.dsv_blast.specs.Words.{same_from}
use Rattle.dsv_blast.proofs.words.equality.Given as goal

abbrev pub invariant-loop-i : goal.invariant-loop-i
invariant-loop-i l = record {
  first : IsOver l.circuit.formula.vars l.first;
  second : IsOver l.circuit.formula.vars l.second;
  known : l.same.var < l.circuit.formula.vars;
  rest : same_from (drop l.i l.first) (drop l.i l.second) l.same l.circuit ≡ same_from l.first l.second l.fn.circuit.one l.fn.circuit;
}
