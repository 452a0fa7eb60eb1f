use Rattle.std.proofs.Common.{◌≡◌, ◌-◌, length}
use Rattle.dsv_cnf.specs.Formula.{IsOver}
use Rattle.dsv_blast.specs.Words.{multiple_from, multiple_built}
use Rattle.dsv_blast.proofs.multiples.multiply.Given as goal

abbrev pub invariant-loop-i : goal.invariant-loop-i
invariant-loop-i l = record {
  copied : IsOver l.circuit.formula.vars l.copies;
  summed : IsOver l.circuit.formula.vars l.sum;
  width : length l.sum ≡ l.width;
  rest : multiple_from l.width (l.width - l.i) l.rest l.copies l.circuit l.sum ≡ multiple_built l.fn.circuit l.number l.word;
}
