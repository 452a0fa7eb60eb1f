use Rattle.std.proofs.Common.{◌≡◌, ◌<◌, [], drop}
use Rattle.dsv_cnf.specs.Formula.{IsOver}
use Rattle.dsv_blast.specs.Words.{choice_from}
use Rattle.dsv_blast.proofs.words.choice.Given as goal

abbrev pub invariant-loop-i : goal.invariant-loop-i
invariant-loop-i l = record {
  first : IsOver l.circuit.formula.vars l.first;
  second : IsOver l.circuit.formula.vars l.second;
  tested : l.test.var < l.circuit.formula.vars;
  rest : choice_from l.test (drop l.i l.first) (drop l.i l.second) l.circuit l.chosen ≡ choice_from l.test l.first l.second l.fn.circuit [];
}
