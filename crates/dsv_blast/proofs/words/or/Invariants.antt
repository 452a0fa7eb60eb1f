use Rattle.std.proofs.Common.{◌≡◌, [], drop}
use Rattle.dsv_cnf.specs.Formula.{IsOver}
use Rattle.dsv_blast.specs.Gates.{or_wired}
use Rattle.dsv_blast.specs.Words.{zip_from}
use Rattle.dsv_blast.proofs.words.or.Given as goal

abbrev pub invariant-loop-i : goal.invariant-loop-i
invariant-loop-i l = record {
  first : IsOver l.circuit.formula.vars l.first;
  second : IsOver l.circuit.formula.vars l.second;
  rest : zip_from or_wired (drop l.i l.first) (drop l.i l.second) l.circuit l.any ≡ zip_from or_wired l.first l.second l.fn.circuit [];
}
