-- Serves private contracts: what is pushed into a circuit, and what is known of earlier words.
use Rattle.std.specs.Prelude.{◌+◌, List, ◌++◌, map, length, All}
use Rattle.dsv_cnf.specs.Formula.{AreOver}
use Rattle.dsv_cnf.specs.Literal.{Literal}
use Rattle.dsv_term.specs.Word.{IsWidth}
use Rattle.dsv_blast.specs.CircuitView.{CircuitView}

-- the circuit with more clauses
abbrev pub with_clauses : CircuitView → List (List Literal) → CircuitView
with_clauses c cs = record {
  one = c.one;
  formula = record { vars = c.formula.vars; clauses = c.formula.clauses ++ cs };
}

-- the circuit with one variable more
abbrev pub with_variable : CircuitView → CircuitView
with_variable c = record {
  one = c.one;
  formula = record { vars = c.formula.vars + 1; clauses = c.formula.clauses };
}

-- The bits of earlier nodes are over the circuit, and as many as a term may have.
pub record AreEarlier (c : CircuitView) (bits : List (List Literal)) : Type 0 where
  pub over : AreOver c.formula.vars bits
  pub widths : All IsWidth (map length bits)
