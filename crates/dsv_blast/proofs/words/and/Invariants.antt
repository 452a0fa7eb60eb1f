use Rattle.std.proofs.Common.{◌≡◌, [], drop}
use Rattle.dsv_cnf.specs.Formula.{IsOver}
use Rattle.dsv_blast.specs.Gates.{and_wired}
use Rattle.dsv_blast.specs.Words.{zip_from}
use Rattle.dsv_blast.proofs.words.and.Given as goal

abbrev pub invariant-loop-i : goal.invariant-loop-i
invariant-loop-i l = record {
  first : IsOver l.circuit.formula.vars l.first;
  second : IsOver l.circuit.formula.vars l.second;
  rest : zip_from and_wired (drop l.i l.first) (drop l.i l.second) l.circuit l.both ≡ zip_from and_wired l.first l.second l.fn.circuit [];
}
