-- The DIMACS text of a formula, as SAT solvers read it.
use Rattle.std.specs.Prelude.{ℕ, ◌+◌, List, [], ◌∷◌, ◌++◌, length, codes, decimal, cond}
use Rattle.std.specs.List.{flat_map}
use Rattle.dsv_base.specs.Text.{line_of}
use Rattle.dsv_cnf.specs.Literal.{Literal}
use Rattle.dsv_cnf.specs.FormulaView.{FormulaView}

-- the header line `p cnf V C`
abbrev pub header_text : ℕ → ℕ → List ℕ
header_text vars clauses = line_of decimal (codes "p cnf") (vars ∷ clauses ∷ [])

-- the sign of a negation
abbrev pub sign_text : Literal → List ℕ
sign_text l = cond l.positive [] (codes "-")

-- a literal, its variable numbered from 1, and a space
abbrev pub literal_text : Literal → List ℕ
literal_text l = sign_text l ++ decimal (l.var + 1) ++ codes " "

-- a clause's line
abbrev pub clause_text : List Literal → List ℕ
clause_text c = flat_map literal_text c ++ codes "0\n"

-- the whole text
abbrev pub dimacs_text : FormulaView → List ℕ
dimacs_text f = header_text f.vars (length f.clauses) ++ flat_map clause_text f.clauses
